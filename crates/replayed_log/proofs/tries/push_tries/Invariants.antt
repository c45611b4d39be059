use Rattle.std.proofs.Common.{◌≡◌, ◌++◌, map as each}
use Rattle.replay_hub.specs.declared.deed.Task.TheVariants.{Index}
use Rattle.replayed_log.proofs.tries.push_tries.Given as goal

abbrev pub invariant-loop-tried : goal.invariant-loop-tried
invariant-loop-tried l = l.all.items ≡ l.initial.all.items ++ each (λ t. Index t) l.yielded
