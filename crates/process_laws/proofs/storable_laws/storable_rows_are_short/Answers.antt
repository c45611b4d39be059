use Rattle.process_laws.proofs.storable_laws.storable_rows_are_short.Goals as goal
use Rattle.process_laws.proofs.StorableLengths.{storable_rows_are_short}

pub returns : goal.returns
returns c = record { law = storable_rows_are_short }
