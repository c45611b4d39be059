use Rattle.calculus_laws.proofs.laws.one_state.Goals as goal
use Rattle.calculus.proofs.States.{one_state}

pub returns : goal.returns
returns c = record { law = one_state }
