use Rattle.racing_replays.proofs.laws.other_tries_are_idle.Goals as goal
use Rattle.racing_replays.proofs.Possible.{other_tries_are_idle}

pub returns : goal.returns
returns c = record { law = other_tries_are_idle }
