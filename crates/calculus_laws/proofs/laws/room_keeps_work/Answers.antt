use Rattle.calculus_laws.proofs.laws.room_keeps_work.Goals as goal
use Rattle.calculus.proofs.States.{room_keeps_work}

pub returns : goal.returns
returns c = record { law = room_keeps_work }
