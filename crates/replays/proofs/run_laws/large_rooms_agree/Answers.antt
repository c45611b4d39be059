use Rattle.replays.proofs.run_laws.large_rooms_agree.Goals as goal
use Rattle.replays.proofs.Lists.{large_rooms_agree}

pub returns : goal.returns
returns c = record { law = large_rooms_agree }
