use Rattle.replays.proofs.replay_laws.runs_are_replayed.Goals as goal
use Rattle.replays.proofs.Answering.{runs_are_replayed}

pub returns : goal.returns
returns c = record { law = runs_are_replayed }
