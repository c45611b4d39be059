use Rattle.racing_replays.proofs.laws.replays_of_fresh_walks_are_fresh.Goals as goal
use Rattle.racing_replays.proofs.Premises.{replays_of_fresh_walks_are_fresh}

pub returns : goal.returns
returns c = record { law = replays_of_fresh_walks_are_fresh }
