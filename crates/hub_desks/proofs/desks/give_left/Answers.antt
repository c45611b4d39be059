use Rattle.std.proofs.Common.{◌∙◌, arith, refl}
use Rattle.hub_rule.proofs.DeskTurns.{give_on, left_told}
use Rattle.hub_desks.proofs.desks.give_left.Goals as goal

pub store-requires : goal.store-requires
store-requires g c =
    let m = g.S.Scene.meaning in
    let p = c.args.token.now in let h = c.requires.desk in let l = c.requires.low in
    (c.desk_in.ensures.same.0 ∙ c.requires.table.0, (let w = c.requires.table.1 in let d = l.0 in omega arith), give_on m _ _ _ _ c.args.desk _ p.me.0 _ h.0 c.args.works _ refl c.desk_in.ensures.left h.1 h.2 l.2 l.3 l.1)

pub returns-clause-left : goal.returns-clause-left
returns-clause-left g c = left_told c.args.board.now.table_id.slots c.args.desk _ _ c.args.token.now.me.0 _ c.args.works _ refl c.desk_in.ensures.left c.store.ensures.2
