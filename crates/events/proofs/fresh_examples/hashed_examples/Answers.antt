use Rattle.events.proofs.fresh_examples.hashed_examples.Goals as goal
use Rattle.events.proofs.FreshComputed.{hashed_examples}

pub returns : goal.returns
returns c = record { examples = hashed_examples }
