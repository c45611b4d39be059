use Rattle.calculus_laws.proofs.laws.one_unfolding.Goals as goal
use Rattle.calculus.proofs.States.{one_unfolding}

pub returns : goal.returns
returns c = record { law = one_unfolding }
