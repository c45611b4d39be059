use Rattle.std.proofs.Common.{◌≡◌, ◌≤◌, length}
use Rattle.hub_runs.proofs.cases.works.Given as goal

abbrev pub invariant-loop-work : goal.invariant-loop-work
invariant-loop-work l = record { count : length l.works.items ≡ l.work; low : l.count ≤ 128 }
