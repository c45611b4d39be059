use Rattle.events.proofs.shard_laws.shards_follow.Goals as goal
use Rattle.events.proofs.ShardFollowing.{shards_follow}

pub returns : goal.returns
returns c = record { law = shards_follow }
