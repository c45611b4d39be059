use Rattle.std.proofs.Common.{map, take, All}
use Rattle.least_step.specs.Orders.{referred, AreAscending}
use Rattle.least_step.specs.Meeting.{MeetsNone}
use Rattle.least_step.proofs.least.least_meeting.Given as goal

-- the rows so far meet none
abbrev pub invariant-loop-row : goal.invariant-loop-row
invariant-loop-row l = AreAscending (map referred l.rows) → All (MeetsNone (map referred l.rows)) (map referred (take l.row-index l.rows))
