use Rattle.racing_replays.proofs.laws.fresh_replays_have_walks.Goals as goal
use Rattle.racing_replays.proofs.Premises.{fresh_replays_have_walks}

pub returns : goal.returns
returns c = record { law = fresh_replays_have_walks }
