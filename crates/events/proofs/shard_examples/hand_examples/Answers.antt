use Rattle.events.proofs.shard_examples.hand_examples.Goals as goal
use Rattle.events.proofs.ShardComputed.{hand_examples}

pub returns : goal.returns
returns c = record { examples = hand_examples }
