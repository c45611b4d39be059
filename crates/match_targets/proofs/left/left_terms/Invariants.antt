use Rattle.match_targets.proofs.Keeping.{Kept}
use Rattle.match_targets.proofs.left.left_terms.Given as goal

abbrev pub invariant-loop-j : goal.invariant-loop-j
invariant-loop-j l = Kept (λ t. t) l.used l.terms l.left.items l.j
