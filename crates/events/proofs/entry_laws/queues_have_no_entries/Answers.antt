use Rattle.events.proofs.entry_laws.queues_have_no_entries.Goals as goal
use Rattle.events.proofs.Queued.{queues_have_no_entries}

pub returns : goal.returns
returns c = record { law = queues_have_no_entries }
