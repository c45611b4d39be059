use Rattle.process_laws.proofs.closed_row_laws.offers_are_closed.Goals as goal
use Rattle.process_laws.proofs.ClosedRowStaying.{offers_are_closed}

pub returns : goal.returns
returns c = record { law = offers_are_closed }
