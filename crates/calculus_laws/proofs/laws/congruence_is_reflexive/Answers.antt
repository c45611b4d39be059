use Rattle.calculus_laws.proofs.laws.congruence_is_reflexive.Goals as goal
use Rattle.calculus.proofs.Reflexive.{congruent_self}

pub returns : goal.returns
returns c = record { law = congruent_self }
