use Rattle.std.proofs.Common.{◌∙◌, ap, arith}
use Rattle.hub_rule.specs.Works.{hand}
use Rattle.hub_desks.proofs.desks.look_round.Goals as goal

pub fetch_work-requires-clause-desk : goal.fetch_work-requires-clause-desk
fetch_work-requires-clause-desk g c κs within =
    let i = c.loop-step.invariant in let r = c.requires.first in let d = c.requires.desks in
    ((let a = d.0 in let b = d.1 in omega arith), ap (λ x. x.0.pile.desk) i.2 ∙ r.1, (let p = ap (λ x. x.0.parts) i.2 in let q = r.2 in omega arith), ap (λ x. x.0.pile.owes) i.2 ∙ r.3)

pub fetch_work-requires-clause-idle : goal.fetch_work-requires-clause-idle
fetch_work-requires-clause-idle g c κs within = ap (λ x. hand x.0.pile) c.loop-step.invariant.2 ∙ c.requires.idle
