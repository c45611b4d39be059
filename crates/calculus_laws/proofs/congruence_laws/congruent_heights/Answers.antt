use Rattle.calculus_laws.proofs.congruence_laws.congruent_heights.Goals as goal
use Rattle.calculus.proofs.Equivalence.{heights_equal}

pub returns : goal.returns
returns c = record { law = heights_equal }
