use Rattle.play_hub.proofs.laws.causes_end_hubs.Goals as goal
use Rattle.play_hub.proofs.Ending.{causes_end_hubs}

pub returns : goal.returns
returns g c = record { law = causes_end_hubs g.T.ShardTables.rows }
