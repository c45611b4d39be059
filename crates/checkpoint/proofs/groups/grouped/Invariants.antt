use Rattle.std.proofs.Common.{◌≤◌, ◌+◌, length, take, drop}
use Rattle.checkpoint.proofs.Adding.{Going}
use Rattle.checkpoint.proofs.groups.grouped.Given as goal

abbrev pub invariant-loop-row : goal.invariant-loop-row
invariant-loop-row g l = record {
  going : Going l.groups (take l.row-index l.keyed) (drop l.row-index l.keyed);
  counted : l.steps ≤ l.fn.steps + length l.groups.closed.items;
}
