use Rattle.events.proofs.shard_laws.met_rows_are_in_hand.Goals as goal
use Rattle.events.proofs.ShardHolding.{met_rows_are_in_hand}

pub returns : goal.returns
returns c = record { law = met_rows_are_in_hand }
