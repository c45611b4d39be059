use Rattle.process_laws.proofs.closed_value_laws.value_is_closed.Goals as goal
use Rattle.process_laws.proofs.Values.{value_is_closed}

pub returns : goal.returns
returns c = record { law = value_is_closed }
