use Rattle.calculus_laws.proofs.examples.step_examples.Goals as goal
use Rattle.calculus_laws.proofs.Steps.{step_examples}

pub returns : goal.returns
returns c = record { examples = step_examples }
