use Rattle.racing_replays.proofs.laws.confluence.Goals as goal
use Rattle.racing_replays.proofs.Agreeing.{confluence}

pub returns : goal.returns
returns c = record { law = confluence }
