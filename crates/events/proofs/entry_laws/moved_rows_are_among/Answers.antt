use Rattle.events.proofs.entry_laws.moved_rows_are_among.Goals as goal
use Rattle.events.proofs.Showing.{moved_rows_are_among}

pub returns : goal.returns
returns c = record { law = moved_rows_are_among }
