use Rattle.std.proofs.Common.{ap, sym, ◌∙◌, subst, map, ◌+◌, ◌∷◌, [], arith}
use Rattle.std.proofs.lemmas.Grind.{common_steps}
use Rattle.std.proofs.lemmas.List.{map-append}
use Rattle.event_log.specs.declared.fault.LogFault.TheVariants.{NoMemory}
use Rattle.event_log.specs.View.{step_of}
use Rattle.event_log.specs.Reading.{step}
use Rattle.event_log.proofs.Repeated.{SoFar, more, stuck_or}
use Rattle.event_log.proofs.read.take_steps.Goals as goal

pub returns-in_err-step : goal.returns-in_err-step
returns-in_err-step c =
    let h = stuck_or (step c.args.whole) c.args.many c.loop-i._i _ c.loop-i.rest.now c.args.bytes.now _ NoMemory c.loop-i-test.true c.loop-i.invariant c.in_err-step.ensures in
    grind (arith, common_steps, h)

pub loop-i-preserved : goal.loop-i-preserved
loop-i-preserved c =
    subst (λ l. SoFar (step c.args.whole) c.args.many (c.loop-i._i + 1) l c.in_ok-step.after.now c.args.bytes.now)
    (sym (ap (map step_of) c.in_ok-push.ensures.items ∙ map-append step_of c.loop-i.found.items (c.in_ok-step.step ∷ [])))
    (more (step c.args.whole) c.args.many c.loop-i._i (map step_of c.loop-i.found.items) (step_of c.in_ok-step.step) c.loop-i.rest.now c.in_ok-step.after.now c.args.bytes.now c.loop-i-test.true c.loop-i.invariant c.in_ok-step.ensures)
