use Rattle.events.proofs.entry_examples.after_examples.Goals as goal
use Rattle.events.proofs.EntryComputed.{after_examples}

pub returns : goal.returns
returns c = record { examples = after_examples }
