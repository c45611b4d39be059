use Rattle.events.proofs.shard_examples.entry_examples.Goals as goal
use Rattle.events.proofs.ShardComputed.{entry_examples}

pub returns : goal.returns
returns c = record { examples = entry_examples }
