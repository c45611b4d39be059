use Rattle.std.proofs.Common.{◌∙◌, arith}
use Rattle.hub_rule.proofs.Charges.{pay}
use Rattle.hub_steps.proofs.steps.pay.Goals as goal

pub fetch_add-found-requires : goal.fetch_add-found-requires
fetch_add-found-requires g c =
    let m = g.S.Scene.meaning in
    let p = c.args.token.now in
    (c.requires.table.0, (let w = c.requires.table.1 in omega arith), pay m _ _ _ p.id c.args.price p.me.0 p.me.1 c.requires.due.0 c.requires.due.1 c.requires.clear (let q = c.requires.part in omega arith))

pub returns-clause-paid : goal.returns-clause-paid
returns-clause-paid g c = c.ring.ensures.same.2 ∙ c.fetch_add-found.ensures.2
