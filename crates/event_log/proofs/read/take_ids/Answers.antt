use Rattle.std.proofs.Common.{ap, sym, ◌∙◌, subst, map, ◌+◌, ◌∷◌, [], arith}
use Rattle.std.proofs.lemmas.Grind.{common_steps}
use Rattle.std.proofs.lemmas.List.{map-append}
use Rattle.event_log.specs.Reading.{field}
use Rattle.event_log.proofs.Repeated.{SoFar, more, stuck}
use Rattle.event_log.proofs.read.take_ids.Goals as goal

pub returns-in_err-id : goal.returns-in_err-id
returns-in_err-id c =
    let h = stuck (field c.args.whole 32) c.args.many c.loop-i._i _ c.loop-i.rest.now c.args.bytes.now _ c.loop-i-test.true c.loop-i.invariant c.in_err-id.ensures in
    grind (arith, common_steps, h)

pub loop-i-preserved : goal.loop-i-preserved
loop-i-preserved c =
    subst (λ l. SoFar (field c.args.whole 32) c.args.many (c.loop-i._i + 1) l c.in_ok-id.after.now c.args.bytes.now)
    (sym (ap (map (λ id. id.0)) c.in_ok-push.ensures.items ∙ map-append (λ id. id.0) c.loop-i.ids.items (c.in_ok-id.id ∷ [])))
    (more (field c.args.whole 32) c.args.many c.loop-i._i (map (λ id. id.0) c.loop-i.ids.items) c.in_ok-id.id.0 c.loop-i.rest.now c.in_ok-id.after.now c.args.bytes.now c.loop-i-test.true c.loop-i.invariant c.in_ok-id.ensures)
