use Rattle.std.proofs.Common.{◌≡◌, map as each, Some}
use Rattle.replay_hub.specs.declared.deed.Task.TheVariants.{Arrive}
use Rattle.replayed_log.proofs.tries.arrivals.Given as goal

abbrev pub invariant-loop-row : goal.invariant-loop-row
invariant-loop-row l = l.tasks.items ≡ each (λ r. Arrive (record { row = r; from = Some l.fn.step })) l.yielded
