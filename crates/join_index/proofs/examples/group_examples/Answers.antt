use Rattle.join_index.proofs.examples.group_examples.Goals as goal
use Rattle.join_index.proofs.Computed.{group_examples}

pub returns : goal.returns
returns c = record { examples = group_examples }
