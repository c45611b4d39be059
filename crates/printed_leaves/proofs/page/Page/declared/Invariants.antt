use Rattle.std.proofs.Common.{◌≡◌, ◌++◌, ◌+◌, false, drop, codes}
use Rattle.calculus.specs.Printed.{separated, declared_texts}
use Rattle.printed_leaves.specs.Texts.{separated_from}
use Rattle.printed_leaves.proofs.page.Page.declared.Given as goal

abbrev pub invariant-loop-i : goal.invariant-loop-i
invariant-loop-i l = l.self.failed ≡ false → (l.initial.self.failed ≡ false) × (l.next ≡ l.depth + l.i)
    × (l.self.bytes.items ++ separated_from l.i (codes ", ") (declared_texts l.next (drop l.i l.names)) ≡ l.initial.self.bytes.items ++ separated (codes ", ") (declared_texts l.depth l.names))
