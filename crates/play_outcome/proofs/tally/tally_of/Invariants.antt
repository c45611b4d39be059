use Rattle.std.proofs.Common.{◌≡◌, ◌++◌, List}
use Rattle.play_hub.specs.declared.entry.PlayEntry.{PlayEntry}
use Rattle.play_outcome.specs.Tallies.{IsTally}
use Rattle.play_outcome.proofs.tally.tally_of.Given as goal

abbrev pub invariant-loop-entry : goal.invariant-loop-entry
invariant-loop-entry l = record { so_far : (before : List PlayEntry) × (before ++ l.entry-iterator.rest.items ≡ l.fn.entries.items) × IsTally l.fn.fault before l.tally }
