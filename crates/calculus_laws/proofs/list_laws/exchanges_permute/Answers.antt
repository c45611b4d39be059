use Rattle.calculus_laws.proofs.list_laws.exchanges_permute.Goals as goal
use Rattle.calculus.proofs.Permutations.{exchanges_permute}

pub returns : goal.returns
returns g c = record { law = exchanges_permute }
