use Rattle.std.proofs.Common.{take}
use Rattle.run_inputs.specs.Bases.{AreNormalRows}
use Rattle.run_inputs.proofs.normal.see_rows.Given as goal

abbrev pub invariant-loop-row : goal.invariant-loop-row
invariant-loop-row l = AreNormalRows (take l.row-index l.rows)
