use Rattle.events.proofs.fresh_examples.fresh_examples.Goals as goal
use Rattle.events.proofs.FreshComputed.{fresh_examples}

pub returns : goal.returns
returns c = record { examples = fresh_examples }
