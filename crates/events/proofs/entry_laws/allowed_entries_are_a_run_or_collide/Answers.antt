use Rattle.events.proofs.entry_laws.allowed_entries_are_a_run_or_collide.Goals as goal
use Rattle.events.proofs.EntryEnding.{allowed_entries_are_a_run_or_collide}

pub returns : goal.returns
returns c = record { law = allowed_entries_are_a_run_or_collide }
