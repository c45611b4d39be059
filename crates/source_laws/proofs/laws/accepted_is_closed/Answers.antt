use Rattle.source_laws.proofs.laws.accepted_is_closed.Goals as goal
use Rattle.source_laws.proofs.Fitting.{accepted_is_closed}

pub returns : goal.returns
returns c = record { law = accepted_is_closed }
