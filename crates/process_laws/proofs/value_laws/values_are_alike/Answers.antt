use Rattle.process_laws.proofs.value_laws.values_are_alike.Goals as goal
use Rattle.process_laws.proofs.Valued.{values_are_alike}

pub returns : goal.returns
returns c = record { law = values_are_alike }
