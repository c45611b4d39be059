use Rattle.std.proofs.Common.{◌≡◌, ◌++◌, map, take}
use Rattle.least_step.specs.Orders.{referred}
use Rattle.least_step.proofs.rows.refer.Given as goal

abbrev pub invariant-loop-row : goal.invariant-loop-row
invariant-loop-row l = map referred l.all.items ≡ map referred l.initial.all.items ++ take l.row-index l.rows
