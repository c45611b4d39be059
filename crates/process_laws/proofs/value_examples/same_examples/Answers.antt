use Rattle.process_laws.proofs.value_examples.same_examples.Goals as goal
use Rattle.process_laws.proofs.ExamplesSame.{same_examples}

pub returns : goal.returns
returns c = record { examples = same_examples }
