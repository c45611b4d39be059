use Rattle.racing_replays.proofs.laws.races_are_fresh.Goals as goal
use Rattle.racing_replays.proofs.Along.{races_are_fresh}

pub returns : goal.returns
returns c = record { law = races_are_fresh }
