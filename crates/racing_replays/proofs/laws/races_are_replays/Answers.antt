use Rattle.racing_replays.proofs.laws.races_are_replays.Goals as goal
use Rattle.racing_replays.proofs.Racing.{races_are_replays}

pub returns : goal.returns
returns c = record { law = races_are_replays }
