use Rattle.racing_replays.proofs.laws.replays_agree_or_clash.Goals as goal
use Rattle.racing_replays.proofs.Answering.{replays_agree_or_clash}

pub returns : goal.returns
returns c = record { law = replays_agree_or_clash }
