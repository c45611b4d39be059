use Rattle.events.proofs.entry_examples.verdict_examples.Goals as goal
use Rattle.events.proofs.EntryComputed.{verdict_examples}

pub returns : goal.returns
returns c = record { examples = verdict_examples }
