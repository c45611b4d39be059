use Rattle.calculus_laws.proofs.congruence_laws.order_of_bag.Goals as goal
use Rattle.calculus.proofs.Equivalence.{order_of_bag}

pub returns : goal.returns
returns c = record { law = order_of_bag }
