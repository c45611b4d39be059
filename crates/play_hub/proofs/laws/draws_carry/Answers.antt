use Rattle.play_hub.proofs.laws.draws_carry.Goals as goal
use Rattle.play_hub.proofs.Drawing.{draws_carry}

pub returns : goal.returns
returns g c = record { law = draws_carry g.T.ShardTables.rows }
