use Rattle.play_hub.proofs.laws.draws_are_told.Goals as goal
use Rattle.play_hub.proofs.Drawing.{draws_are_told}

pub returns : goal.returns
returns g c = record { law = draws_are_told g.T.ShardTables.rows }
