use Rattle.std.proofs.Common.{subst}
use Rattle.std.specs.Prelude.{All}
use Rattle.std.proofs.lemmas.List.{take_all}
use Rattle.std.proofs.lemmas.List.Elements.{All-more}
use Rattle.event_log.specs.declared.log.LogStep.{LogStep}
use Rattle.event_log.specs.View.{step_of}
use Rattle.event_log.specs.Laws.{IsStep}
use Rattle.event_log.proofs.Known.{are-steps}
use Rattle.event_log.proofs.steps.steps_are_readable.Goals as goal

pub loop-step-preserved : goal.loop-step-preserved
loop-step-preserved c =
    let Is = λ (s : LogStep). IsStep (step_of s) in
    All-more Is c.args.steps.now c.loop-step.step-index _ c.loop-step-test.true c.loop-step.invariant (subst Is c.step-item.is c.is_step.ensures)

pub returns : goal.returns
returns c =
    let Is = λ (s : LogStep). IsStep (step_of s) in
    are-steps c.args.steps.now (subst (All Is) (take_all c.loop-step.step-index c.args.steps.now c.loop-step-test.false) c.loop-step.invariant)
