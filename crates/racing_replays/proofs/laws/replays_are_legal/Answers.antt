use Rattle.racing_replays.proofs.laws.replays_are_legal.Goals as goal
use Rattle.racing_replays.proofs.Legal.{replays_are_legal}

pub returns : goal.returns
returns c = record { law = replays_are_legal }
