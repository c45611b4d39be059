use Rattle.process_laws.proofs.closed_row_laws.sorted_receives_are_closed.Goals as goal
use Rattle.process_laws.proofs.Ordering.{sorted_receives_are_closed}

pub returns : goal.returns
returns c = record { law = sorted_receives_are_closed }
