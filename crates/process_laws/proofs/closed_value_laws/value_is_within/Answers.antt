use Rattle.process_laws.proofs.closed_value_laws.value_is_within.Goals as goal
use Rattle.process_laws.proofs.Values.{value_is_within}

pub returns : goal.returns
returns c = record { law = value_is_within }
