use Rattle.calculus_laws.proofs.congruence_laws.congruence_is_transitive.Goals as goal
use Rattle.calculus.proofs.Equivalence.{transitive}

pub returns : goal.returns
returns c = record { law = transitive }
