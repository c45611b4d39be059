use Rattle.play_hub.proofs.laws.hubs_come_to_plays.Goals as goal
use Rattle.play_hub.proofs.Ending.{hubs_come_to_plays}

pub returns : goal.returns
returns g c = record { law = hubs_come_to_plays g.T.ShardTables.rows }
