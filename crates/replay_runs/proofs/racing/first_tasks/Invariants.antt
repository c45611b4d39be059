use Rattle.std.proofs.Common.{◌≡◌}
use Rattle.replay_runs.specs.Racing.{arrivals}
use Rattle.replay_runs.proofs.racing.first_tasks.Given as goal

abbrev pub invariant-loop-row : goal.invariant-loop-row
invariant-loop-row l = l.tasks.items ≡ arrivals l.yielded
