use Rattle.racing_replays.proofs.laws.races_are_fresh_or_clash.Goals as goal
use Rattle.racing_replays.proofs.Along.{races_are_fresh_or_clash}

pub returns : goal.returns
returns c = record { law = races_are_fresh_or_clash }
