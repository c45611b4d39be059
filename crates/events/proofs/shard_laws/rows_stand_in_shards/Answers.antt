use Rattle.events.proofs.shard_laws.rows_stand_in_shards.Goals as goal
use Rattle.events.proofs.ShardStanding.{rows_stand_in_shards}

pub returns : goal.returns
returns c = record { law = rows_stand_in_shards }
