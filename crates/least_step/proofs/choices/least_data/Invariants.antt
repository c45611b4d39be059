use Rattle.std.proofs.Common.{List, take}
use Rattle.calculus.specs.Rows.{Row}
use Rattle.least_step.specs.Orders.{AreAscending}
use Rattle.least_step.specs.Filed.{AreFiled}
use Rattle.least_step.specs.Choosing.{AreLeastTaken}
use Rattle.least_step.proofs.choices.least_data.Given as goal

-- the binds so far take these
abbrev pub invariant-loop-bind : goal.invariant-loop-bind
invariant-loop-bind l = (rows : List Row) → AreAscending rows → AreFiled rows l.sends.entries → AreLeastTaken rows (take l.bind-index l.binds) l.taken.items
