use Rattle.std.proofs.Common.{◌≡◌, take}
use Rattle.calculus.specs.Unfolding.{from_on}
use Rattle.offered_rows.proofs.receive.are_in_order.Given as goal

abbrev pub invariant-loop-i : goal.invariant-loop-i
invariant-loop-i l = take l.i l.places ≡ from_on 0 l.i
