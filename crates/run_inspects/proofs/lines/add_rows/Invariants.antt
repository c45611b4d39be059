use Rattle.std.proofs.Common.{◌≡◌, ◌++◌, take}
use Rattle.run_inspects.specs.Listing.{row_lines}
use Rattle.run_inspects.proofs.lines.add_rows.Given as goal

abbrev pub invariant-loop-row : goal.invariant-loop-row
invariant-loop-row l = l.text.items ≡ l.initial.text.items ++ row_lines (take l.row-index l.rows)
