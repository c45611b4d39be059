use Rattle.std.proofs.Common.{◌≡◌, ◌++◌, drop}
use Rattle.space_row.proofs.copies.copy_terms.Given as goal

abbrev pub invariant-loop-term : goal.invariant-loop-term
invariant-loop-term l = l.copies.items ++ drop l.term-index l.terms.items ≡ l.terms.items
