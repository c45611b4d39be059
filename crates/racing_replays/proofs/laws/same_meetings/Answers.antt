use Rattle.racing_replays.proofs.laws.same_meetings.Goals as goal
use Rattle.racing_replays.proofs.Same.{same_meetings}

pub returns : goal.returns
returns c = record { law = same_meetings }
