use Rattle.std.proofs.Common.{◌≡◌, map, take, All}
use Rattle.std.specs.Prelude.{None}
use Rattle.row_search.specs.Choices.{takes}
use Rattle.least_step.specs.Orders.{referred}
use Rattle.least_step.proofs.choices.first_taken.Given as goal

-- the rows so far are not taken
abbrev pub invariant-loop-row : goal.invariant-loop-row
invariant-loop-row l = All (λ r. takes l.bind r ≡ None) (map referred (take l.row-index l.rows))
