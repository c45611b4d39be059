use Rattle.events.proofs.entry_laws.step_entries_are_allowed.Goals as goal
use Rattle.events.proofs.Showing.{step_entries_are_allowed}

pub returns : goal.returns
returns c = record { law = step_entries_are_allowed }
