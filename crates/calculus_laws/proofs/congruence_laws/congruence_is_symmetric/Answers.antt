use Rattle.calculus_laws.proofs.congruence_laws.congruence_is_symmetric.Goals as goal
use Rattle.calculus.proofs.Equivalence.{symmetric}

pub returns : goal.returns
returns c = record { law = symmetric }
