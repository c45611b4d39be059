use Rattle.std.proofs.Common.{map, take}
use Rattle.least_step.specs.Orders.{referred}
use Rattle.least_step.specs.Filed.{AreAwaited, AreFiled}
use Rattle.least_step.proofs.sends.file_sends.Given as goal

abbrev pub invariant-loop-row : goal.invariant-loop-row
invariant-loop-row l = record {
  filed : AreFiled (map referred (take l.row-index l.rows)) l.sends.entries;
  awaited : AreAwaited (map referred l.rows) l.sends.entries;
}
