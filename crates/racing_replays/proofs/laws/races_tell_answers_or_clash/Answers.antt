use Rattle.racing_replays.proofs.laws.races_tell_answers_or_clash.Goals as goal
use Rattle.racing_replays.proofs.AtRest.{races_tell_answers_or_clash}

pub returns : goal.returns
returns c = record { law = races_tell_answers_or_clash }
