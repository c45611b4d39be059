use Rattle.std.proofs.Common.{take, All}
use Rattle.calculus.specs.Storing.{IsStorable}
use Rattle.play_runs.proofs.rows.rows_may_be_stored.Given as goal

abbrev pub invariant-loop-row : goal.invariant-loop-row
invariant-loop-row l = record { storable : All IsStorable (take l.row-index l.rows) }
