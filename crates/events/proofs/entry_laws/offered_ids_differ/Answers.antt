use Rattle.events.proofs.entry_laws.offered_ids_differ.Goals as goal
use Rattle.events.proofs.Queued.{offered_ids_differ}

pub returns : goal.returns
returns c = record { law = offered_ids_differ }
