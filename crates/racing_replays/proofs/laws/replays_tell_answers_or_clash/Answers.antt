use Rattle.racing_replays.proofs.laws.replays_tell_answers_or_clash.Goals as goal
use Rattle.racing_replays.proofs.Answering.{replays_tell_answers_or_clash}

pub returns : goal.returns
returns c = record { law = replays_tell_answers_or_clash }
