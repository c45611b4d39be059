use Rattle.calculus_laws.proofs.code_laws.codes_split.Goals as goal
use Rattle.calculus.proofs.FromFits.{codes_split}

pub returns : goal.returns
returns c = record { law = codes_split }
