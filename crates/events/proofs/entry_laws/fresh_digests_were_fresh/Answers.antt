use Rattle.events.proofs.entry_laws.fresh_digests_were_fresh.Goals as goal
use Rattle.events.proofs.Growing.{fresh_digests_were_fresh}

pub returns : goal.returns
returns c = record { law = fresh_digests_were_fresh }
