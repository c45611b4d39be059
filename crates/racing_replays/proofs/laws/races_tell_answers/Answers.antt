use Rattle.racing_replays.proofs.laws.races_tell_answers.Goals as goal
use Rattle.racing_replays.proofs.AtRest.{races_tell_answers}

pub returns : goal.returns
returns c = record { law = races_tell_answers }
