use Rattle.std.proofs.Common.{◌≡◌, false, map, All}
use Rattle.rho_term.specs.Normal.{IsOrdered}
use Rattle.rho_term.specs.Parts.{part_tree, pat_part_tree}
use Rattle.substitution.specs.Becoming.{Joins}
use Rattle.substitution.proofs.maker.Maker.add_closed.Given as goal

abbrev pub invariant-loop-part : goal.invariant-loop-part
invariant-loop-part l = l.self.failed ≡ false → (l.initial.self.failed ≡ false)
    × (All (λ p. IsOrdered (part_tree p)) l.yielded → Joins pat_part_tree (map part_tree l.yielded) l.initial.out.items l.out.items)
