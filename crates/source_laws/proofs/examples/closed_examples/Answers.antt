use Rattle.source_laws.proofs.examples.closed_examples.Goals as goal
use Rattle.source_laws.proofs.ExamplesClosed.{closed_examples}

pub returns : goal.returns
returns c = record { examples = closed_examples }
