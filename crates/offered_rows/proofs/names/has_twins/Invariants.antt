use Rattle.std.proofs.Common.{◌≡◌, drop}
use Rattle.calculus.specs.Unfolding.{has_twins}
use Rattle.offered_rows.proofs.names.has_twins.Given as goal

abbrev pub invariant-loop-i : goal.invariant-loop-i
invariant-loop-i l = has_twins l.names ≡ has_twins (drop l.i l.names)
