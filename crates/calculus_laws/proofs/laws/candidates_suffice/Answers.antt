use Rattle.calculus_laws.proofs.laws.candidates_suffice.Goals as goal
use Rattle.calculus.proofs.Candidates.{candidates_suffice}

pub returns : goal.returns
returns c = record { law = candidates_suffice }
