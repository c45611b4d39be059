use Rattle.calculus_laws.proofs.laws.variable_matches_once.Goals as goal
use Rattle.calculus_laws.proofs.Least.{variable_matches_once}

pub returns : goal.returns
returns c = record { law = variable_matches_once }
