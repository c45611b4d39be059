use Rattle.racing_replays.proofs.laws.fitting_steps_are_done.Goals as goal
use Rattle.racing_replays.proofs.Possible.{fitting_steps_are_done}

pub returns : goal.returns
returns c = record { law = fitting_steps_are_done }
