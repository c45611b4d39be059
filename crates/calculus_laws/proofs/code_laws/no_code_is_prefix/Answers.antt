use Rattle.calculus_laws.proofs.code_laws.no_code_is_prefix.Goals as goal
use Rattle.calculus.proofs.FromFits.{no_code_is_prefix}

pub returns : goal.returns
returns c = record { law = no_code_is_prefix }
