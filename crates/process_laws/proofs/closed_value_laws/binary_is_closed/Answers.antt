use Rattle.process_laws.proofs.closed_value_laws.binary_is_closed.Goals as goal
use Rattle.process_laws.proofs.Operators.{binary_is_closed}

pub returns : goal.returns
returns c = record { law = binary_is_closed }
