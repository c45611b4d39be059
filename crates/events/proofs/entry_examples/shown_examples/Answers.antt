use Rattle.events.proofs.entry_examples.shown_examples.Goals as goal
use Rattle.events.proofs.EntryComputed.{shown_examples}

pub returns : goal.returns
returns c = record { examples = shown_examples }
