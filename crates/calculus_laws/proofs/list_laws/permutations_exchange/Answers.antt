use Rattle.calculus_laws.proofs.list_laws.permutations_exchange.Goals as goal
use Rattle.calculus.proofs.Permutations.{permutations_exchange}

pub returns : goal.returns
returns g c = record { law = permutations_exchange }
