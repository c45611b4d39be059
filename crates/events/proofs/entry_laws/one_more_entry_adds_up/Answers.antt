use Rattle.events.proofs.entry_laws.one_more_entry_adds_up.Goals as goal
use Rattle.events.proofs.Growing.{one_more_entry_adds_up}

pub returns : goal.returns
returns c = record { law = one_more_entry_adds_up }
