use Rattle.events.proofs.fresh_laws.old_digests_differ.Goals as goal
use Rattle.events.proofs.Concluding.{old_digests_differ}

pub returns : goal.returns
returns c = record { law = old_digests_differ }
