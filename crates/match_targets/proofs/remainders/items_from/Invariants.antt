use Rattle.std.proofs.Common.{◌≡◌, ◌++◌, drop}
use Rattle.match_targets.proofs.remainders.items_from.Given as goal

abbrev pub invariant-loop-j : goal.invariant-loop-j
invariant-loop-j l = l.left.items ++ drop l.j l.terms ≡ drop l.i l.terms
