use Rattle.events.proofs.shard_examples.standing_examples.Goals as goal
use Rattle.events.proofs.ShardComputed.{standing_examples}

pub returns : goal.returns
returns c = record { examples = standing_examples }
