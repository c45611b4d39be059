use Rattle.events.proofs.shard_laws.nothing_in_hand_is_nothing_stored.Goals as goal
use Rattle.events.proofs.ShardHolding.{nothing_in_hand_is_nothing_stored}

pub returns : goal.returns
returns c = record { law = nothing_in_hand_is_nothing_stored }
