use Rattle.std.proofs.Common.{◌≡◌, map, take}
use Rattle.calculus.specs.Rows.{row_code}
use Rattle.checkpoint.proofs.groups.codes_of_rows.Given as goal

abbrev pub invariant-loop-row : goal.invariant-loop-row
invariant-loop-row l = map (λ c. c.items) l.codes.items ≡ map row_code (take l.row-index l.rows)
