use Rattle.std.proofs.Common.{◌≡◌}
use Rattle.replay_rows.proofs.sharded.sharded_rows.Given as goal

abbrev pub invariant-loop-row : goal.invariant-loop-row
invariant-loop-row l = l.sharded.items ≡ l.yielded
