use Rattle.std.proofs.Common.{◌≡◌, ◌+◌, drop}
use Rattle.found_rows.specs.Making.{times_made}
use Rattle.play_draws.specs.Making.{steps_drawn}
use Rattle.play_runs.proofs.counting.count_steps.Given as goal

-- what is counted, and what is left to count
abbrev pub invariant-loop-pair : goal.invariant-loop-pair
invariant-loop-pair l = l.count + times_made l.found (steps_drawn (drop l.pair-index l.took)) ≡ times_made l.found (steps_drawn l.took)
