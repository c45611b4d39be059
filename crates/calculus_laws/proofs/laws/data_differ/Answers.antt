use Rattle.calculus_laws.proofs.laws.data_differ.Goals as goal
use Rattle.calculus.proofs.Candidates.{data_differ}

pub returns : goal.returns
returns c = record { law = data_differ }
