use Rattle.process_laws.proofs.closed_value_laws.method_is_closed.Goals as goal
use Rattle.process_laws.proofs.Methods.{method_is_closed}

pub returns : goal.returns
returns c = record { law = method_is_closed }
