use Rattle.std.proofs.Common.{◌≡◌, ◌++◌, map, take}
use Rattle.calculus.specs.Bytes.{joined}
use Rattle.calculus.specs.Log.{step_text}
use Rattle.event_log.specs.View.{step_of}
use Rattle.event_log.proofs.write.write_steps.Given as goal

abbrev pub invariant-loop-step : goal.invariant-loop-step
invariant-loop-step l = l.bytes.items ≡ l.initial.bytes.items ++ joined (map (λ s. step_text (step_of s)) (take l.step-index l.steps))
