use Rattle.events.proofs.entry_laws.queues_are_pending.Goals as goal
use Rattle.events.proofs.Queued.{queues_are_pending}

pub returns : goal.returns
returns c = record { law = queues_are_pending }
