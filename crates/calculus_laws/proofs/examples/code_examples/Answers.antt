use Rattle.calculus_laws.proofs.examples.code_examples.Goals as goal
use Rattle.calculus_laws.proofs.Congruence.{code_examples}

pub returns : goal.returns
returns c = record { examples = code_examples }
