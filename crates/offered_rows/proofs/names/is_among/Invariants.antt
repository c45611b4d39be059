use Rattle.std.proofs.Common.{◌≡◌, drop}
use Rattle.calculus.specs.Operators.{is_among}
use Rattle.offered_rows.proofs.names.is_among.Given as goal

abbrev pub invariant-loop-other : goal.invariant-loop-other
invariant-loop-other l = is_among l.name l.others ≡ is_among l.name (drop l.other-index l.others)
