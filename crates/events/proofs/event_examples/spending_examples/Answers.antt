use Rattle.events.proofs.event_examples.spending_examples.Goals as goal
use Rattle.events.proofs.EventComputed.{spending_examples}

pub returns : goal.returns
returns c = record { examples = spending_examples }
