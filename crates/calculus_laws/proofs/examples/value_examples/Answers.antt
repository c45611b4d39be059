use Rattle.calculus_laws.proofs.examples.value_examples.Goals as goal
use Rattle.calculus_laws.proofs.Values.{value_examples}

pub returns : goal.returns
returns c = record { examples = value_examples }
