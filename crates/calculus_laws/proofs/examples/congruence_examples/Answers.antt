use Rattle.calculus_laws.proofs.examples.congruence_examples.Goals as goal
use Rattle.calculus_laws.proofs.Congruence.{congruence_examples}

pub returns : goal.returns
returns c = record { examples = congruence_examples }
