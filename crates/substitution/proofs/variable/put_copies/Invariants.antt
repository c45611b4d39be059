use Rattle.std.proofs.Common.{◌≡◌, ◌++◌, false, map, drop}
use Rattle.rho_term.specs.Parts.{part_tree}
use Rattle.substitution.specs.Becoming.{StayOrdered}
use Rattle.substitution.proofs.variable.put_copies.Given as goal

abbrev pub invariant-loop-part : goal.invariant-loop-part
invariant-loop-part l = l.maker.failed ≡ false → (l.initial.maker.failed ≡ false)
    × ((map part_tree l.out.items ++ map part_tree (drop l.part-index l.part-items) ≡ map part_tree l.initial.out.items ++ map part_tree l.part-items) × StayOrdered part_tree l.initial.out.items l.out.items)
