use Rattle.process_laws.proofs.closed_row_laws.closed_rows_stay.Goals as goal
use Rattle.process_laws.proofs.ClosedRowStaying.{closed_rows_stay}

pub returns : goal.returns
returns c = record { law = closed_rows_stay }
