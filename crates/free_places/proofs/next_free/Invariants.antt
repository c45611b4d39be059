use Rattle.std.proofs.Common.{◌≤◌}
use Rattle.free_places.specs.Places.{AreUsed}
use Rattle.free_places.proofs.next_free.Given as goal

abbrev pub invariant-loop-j : goal.invariant-loop-j
invariant-loop-j l = (l.from ≤ l.j) × AreUsed l.used l.from l.j
