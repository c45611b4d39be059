use Rattle.rho_term.specs.Parts.{pair_tree}
use Rattle.match_targets.proofs.Keeping.{Kept}
use Rattle.match_targets.proofs.left.left_pairs.Given as goal

abbrev pub invariant-loop-j : goal.invariant-loop-j
invariant-loop-j l = Kept pair_tree l.used l.pairs l.left.items l.j
