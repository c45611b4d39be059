use Rattle.racing_replays.proofs.laws.replay_many.Goals as goal
use Rattle.racing_replays.proofs.Answers.{replay_many}

pub returns : goal.returns
returns c = record { law = replay_many }
