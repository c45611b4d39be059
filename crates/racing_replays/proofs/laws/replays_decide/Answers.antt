use Rattle.racing_replays.proofs.laws.replays_decide.Goals as goal
use Rattle.racing_replays.proofs.Converse.{replays_decide}

pub returns : goal.returns
returns c = record { law = replays_decide }
