use Rattle.racing_replays.proofs.laws.turns_are_next_uses.Goals as goal
use Rattle.racing_replays.proofs.Places.{turns_are_next_uses}

pub returns : goal.returns
returns c = record { law = turns_are_next_uses }
