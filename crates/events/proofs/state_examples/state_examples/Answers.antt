use Rattle.events.proofs.state_examples.state_examples.Goals as goal
use Rattle.events.proofs.StateComputed.{state_examples}

pub returns : goal.returns
returns c = record { examples = state_examples }
