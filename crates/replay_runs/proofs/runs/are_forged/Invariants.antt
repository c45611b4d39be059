use Rattle.std.proofs.Common.{◌≡◌, false, take}
use Rattle.replay_runs.specs.Racing.{any_built_in_id}
use Rattle.replay_runs.proofs.runs.are_forged.Given as goal

abbrev pub invariant-loop-row : goal.invariant-loop-row
invariant-loop-row l = any_built_in_id (take l.row-index l.rows) ≡ false
