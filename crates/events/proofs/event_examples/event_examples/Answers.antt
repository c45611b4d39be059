use Rattle.events.proofs.event_examples.event_examples.Goals as goal
use Rattle.events.proofs.EventComputed.{event_examples}

pub returns : goal.returns
returns c = record { examples = event_examples }
