use Rattle.racing_replays.proofs.laws.replays_are_fresh_or_clash.Goals as goal
use Rattle.racing_replays.proofs.Answering.{replays_are_fresh_or_clash}

pub returns : goal.returns
returns c = record { law = replays_are_fresh_or_clash }
