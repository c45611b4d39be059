use Rattle.events.proofs.entry_laws.allowed_entries_are_a_run_or_show_an_id.Goals as goal
use Rattle.events.proofs.EntryEnding.{allowed_entries_are_a_run_or_show_an_id}

pub returns : goal.returns
returns c = record { law = allowed_entries_are_a_run_or_show_an_id }
