use Rattle.rho_term.specs.Parts.{part_tree}
use Rattle.match_targets.proofs.Keeping.{Kept}
use Rattle.match_targets.proofs.left.left_term.Given as goal

abbrev pub invariant-loop-j : goal.invariant-loop-j
invariant-loop-j l = Kept part_tree l.used l.parts l.left.items l.j
