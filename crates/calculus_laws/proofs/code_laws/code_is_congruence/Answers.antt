use Rattle.calculus_laws.proofs.code_laws.code_is_congruence.Goals as goal
use Rattle.calculus.proofs.CodesAgree.{code_is_congruence}

pub returns : goal.returns
returns c = record { law = code_is_congruence }
