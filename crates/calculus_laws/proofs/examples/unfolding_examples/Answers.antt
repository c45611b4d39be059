use Rattle.calculus_laws.proofs.examples.unfolding_examples.Goals as goal
use Rattle.calculus_laws.proofs.Unfoldings.{unfolding_examples}

pub returns : goal.returns
returns c = record { examples = unfolding_examples }
