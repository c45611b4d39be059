use Rattle.std.proofs.Common.{take}
use Rattle.std.specs.Prelude.{All}
use Rattle.event_log.specs.View.{step_of}
use Rattle.event_log.specs.Laws.{IsStep}
use Rattle.event_log.proofs.steps.steps_are_readable.Given as goal

abbrev pub invariant-loop-step : goal.invariant-loop-step
invariant-loop-step l = All (λ s. IsStep (step_of s)) (take l.step-index l.steps)
