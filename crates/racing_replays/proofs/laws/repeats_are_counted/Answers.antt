use Rattle.racing_replays.proofs.laws.repeats_are_counted.Goals as goal
use Rattle.racing_replays.proofs.Turns.{repeats_are_counted}

pub returns : goal.returns
returns c = record { law = repeats_are_counted }
