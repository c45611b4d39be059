use Rattle.events.proofs.entry_laws.lonely_entries_are_allowed.Goals as goal
use Rattle.events.proofs.Showing.{lonely_entries_are_allowed}

pub returns : goal.returns
returns c = record { law = lonely_entries_are_allowed }
