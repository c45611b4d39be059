use Rattle.events.proofs.shard_laws.untouched_shards_stay.Goals as goal
use Rattle.events.proofs.ShardFollowing.{untouched_shards_stay}

pub returns : goal.returns
returns c = record { law = untouched_shards_stay }
