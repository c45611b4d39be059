use Rattle.events.proofs.event_laws.fresh_digests_are_fresh.Goals as goal
use Rattle.events.proofs.Fresh.{fresh_digests_are_fresh}

pub returns : goal.returns
returns c = record { law = fresh_digests_are_fresh }
