use Rattle.process_laws.proofs.closed_row_examples.closed_row_examples.Goals as goal
use Rattle.process_laws.proofs.ClosedRowExamplesRows.{closed_row_examples}

pub returns : goal.returns
returns c = record { examples = closed_row_examples }
