use Rattle.std.proofs.Common.{[], map, take}
use Rattle.least_step.specs.Orders.{referred}
use Rattle.least_step.specs.Filed.{AreAwaited, AreFiled}
use Rattle.least_step.proofs.sends.places_for.Given as goal

abbrev pub invariant-loop-row : goal.invariant-loop-row
invariant-loop-row l = record {
  awaited : AreAwaited (map referred (take l.row-index l.rows)) l.sends.entries;
  bare : AreFiled [] l.sends.entries;
}
