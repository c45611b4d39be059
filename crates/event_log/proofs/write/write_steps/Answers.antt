use Rattle.std.proofs.Common.{List, ◌++◌, ◌∙◌, ap, sym, map}
use Rattle.std.proofs.lemmas.List.{take_all}
use Rattle.std.proofs.lemmas.Simd.{map-map}
use Rattle.calculus.specs.Bytes.{joined}
use Rattle.calculus.specs.Log.{step_text}
use Rattle.event_log.specs.View.{step_of}
use Rattle.event_log.specs.declared.log.LogStep.{LogStep}
use Rattle.event_log.proofs.Grown.{grown}
use Rattle.event_log.proofs.write.write_steps.Goals as goal

pub loop-step-preserved : goal.loop-step-preserved
loop-step-preserved c =
    let before = c.loop-step.bytes.items in
    grown (λ (s : LogStep). step_text (step_of s)) c.args.bytes.now.items before c.write_step.new.bytes.items c.args.steps.now c.loop-step.step-index c.step-item.result
    c.loop-step-test.true c.loop-step.invariant (c.in_ok-write_step.ensures ∙ ap (λ s. before ++ step_text (step_of s)) c.step-item.is)

pub returns : goal.returns
returns c =
    let start = c.args.bytes.now.items in
    let steps = c.args.steps.now in
    c.loop-step.invariant
    ∙ ap (λ (l : List LogStep). start ++ joined (map (λ s. step_text (step_of s)) l)) (take_all c.loop-step.step-index steps c.loop-step-test.false)
    ∙ ap (λ l. start ++ joined l) (sym (map-map step_text step_of steps))
