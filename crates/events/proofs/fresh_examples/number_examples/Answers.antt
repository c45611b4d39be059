use Rattle.events.proofs.fresh_examples.number_examples.Goals as goal
use Rattle.events.proofs.FreshComputed.{number_examples}

pub returns : goal.returns
returns c = record { examples = number_examples }
