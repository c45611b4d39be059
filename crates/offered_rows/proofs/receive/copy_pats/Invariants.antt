use Rattle.std.proofs.Common.{◌≡◌, take}
use Rattle.offered_rows.proofs.receive.copy_pats.Given as goal

abbrev pub invariant-loop-pat : goal.invariant-loop-pat
invariant-loop-pat l = l.copies.items ≡ take l.pat-index l.pats.items
