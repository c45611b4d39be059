use Rattle.racing_replays.proofs.laws.uses_are_counted.Goals as goal
use Rattle.racing_replays.proofs.Turns.{uses_are_counted}

pub returns : goal.returns
returns c = record { law = uses_are_counted }
