use Rattle.calculus_laws.proofs.examples.bare_examples.Goals as goal
use Rattle.calculus_laws.proofs.Bare.{bare_examples}

pub returns : goal.returns
returns c = record { examples = bare_examples }
