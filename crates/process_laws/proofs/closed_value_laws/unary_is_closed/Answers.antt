use Rattle.process_laws.proofs.closed_value_laws.unary_is_closed.Goals as goal
use Rattle.process_laws.proofs.Operators.{unary_is_closed}

pub returns : goal.returns
returns c = record { law = unary_is_closed }
