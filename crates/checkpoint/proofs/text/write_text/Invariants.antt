use Rattle.std.proofs.Common.{map, take}
use Rattle.calculus.specs.Bytes.{joined}
use Rattle.calculus.specs.Rows.{row_code}
use Rattle.checkpoint.specs.Pages.{Written}
use Rattle.checkpoint.proofs.text.write_text.Given as goal

abbrev pub invariant-loop-row : goal.invariant-loop-row
invariant-loop-row l = Written l.initial.page l.page (joined (map row_code (take l.row-index l.rows)))
