use Rattle.process_laws.proofs.storable_laws.storable_rows_are_closed.Goals as goal
use Rattle.process_laws.proofs.StorableStaying.{storable_rows_are_closed}

pub returns : goal.returns
returns c = record { law = storable_rows_are_closed }
