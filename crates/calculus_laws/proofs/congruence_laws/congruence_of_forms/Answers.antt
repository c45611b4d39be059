use Rattle.calculus_laws.proofs.congruence_laws.congruence_of_forms.Goals as goal
use Rattle.calculus.proofs.Equivalence.{of_forms}

pub returns : goal.returns
returns c = record { law = of_forms }
