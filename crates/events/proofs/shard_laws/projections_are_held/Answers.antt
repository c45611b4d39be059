use Rattle.events.proofs.shard_laws.projections_are_held.Goals as goal
use Rattle.events.proofs.ShardHolding.{projections_are_held}

pub returns : goal.returns
returns c = record { law = projections_are_held }
