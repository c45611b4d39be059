use Rattle.events.proofs.entry_laws.allowed_entries_reach.Goals as goal
use Rattle.events.proofs.Queued.{allowed_entries_reach}

pub returns : goal.returns
returns c = record { law = allowed_entries_reach }
