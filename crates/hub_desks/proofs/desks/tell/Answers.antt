use Rattle.std.proofs.Common.{◌∙◌, sym, arith}
use Rattle.hub_rule.proofs.DeskTurns.{tell, tell_none}
use Rattle.hub_desks.proofs.desks.tell.Goals as goal

pub fetch_add-requires : goal.fetch_add-requires
fetch_add-requires g c =
    let m = g.S.Scene.meaning in
    let p = c.args.token.now in
    (c.requires.table.0, (let w = c.requires.table.1 in omega arith), tell m _ _ _ p.id c.args.offers p.me.0 p.me.1 c.requires.owes c.requires.offers)

pub load-requires : goal.load-requires
load-requires g c =
    let m = g.S.Scene.meaning in
    let p = c.args.token.now in
    (c.requires.table.0, (let w = c.requires.table.1 in omega arith), tell_none m _ _ _ p.id p.me.0 p.me.1 c.requires.owes (sym c.if-offers-eq0.true ∙ c.requires.offers))
