use Rattle.process_laws.proofs.closed_row_laws.bodies_are_closed.Goals as goal
use Rattle.process_laws.proofs.ClosedRowStaying.{bodies_are_closed}

pub returns : goal.returns
returns c = record { law = bodies_are_closed }
