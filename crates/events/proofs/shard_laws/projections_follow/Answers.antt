use Rattle.events.proofs.shard_laws.projections_follow.Goals as goal
use Rattle.events.proofs.ShardFollowing.{projections_follow}

pub returns : goal.returns
returns c = record { law = projections_follow }
