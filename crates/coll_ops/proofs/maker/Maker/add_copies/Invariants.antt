use Rattle.std.proofs.Common.{◌≡◌, ◌++◌, false, drop}
use Rattle.coll_ops.proofs.maker.Maker.add_copies.Given as goal

abbrev pub invariant-loop-term : goal.invariant-loop-term
invariant-loop-term l = l.self.failed ≡ false → (l.initial.self.failed ≡ false) × (l.copies.items ++ drop l.term-index l.terms ≡ l.initial.copies.items ++ l.terms)
