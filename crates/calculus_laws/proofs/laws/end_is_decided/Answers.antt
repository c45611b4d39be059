use Rattle.calculus_laws.proofs.laws.end_is_decided.Goals as goal
use Rattle.calculus.proofs.Candidates.{end_is_decided}

pub returns : goal.returns
returns c = record { law = end_is_decided }
