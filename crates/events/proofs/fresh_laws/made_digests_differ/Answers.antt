use Rattle.events.proofs.fresh_laws.made_digests_differ.Goals as goal
use Rattle.events.proofs.Concluding.{made_digests_differ}

pub returns : goal.returns
returns c = record { law = made_digests_differ }
