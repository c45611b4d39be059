use Rattle.process_laws.proofs.storable_examples.storable_row_examples.Goals as goal
use Rattle.process_laws.proofs.StorableExamplesRows.{storable_row_examples}

pub returns : goal.returns
returns c = record { examples = storable_row_examples }
