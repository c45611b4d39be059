use Rattle.std.proofs.Common.{◌∙◌, arith, refl}
use Rattle.hub_rule.proofs.DeskTurns.{give_any, told_some, told_none}
use Rattle.hub_desks.proofs.desks.give_desk.Goals as goal

pub store-requires : goal.store-requires
store-requires g c =
    let m = g.S.Scene.meaning in
    let p = c.args.token.now in let h = c.requires.desk in let l = c.requires.low in
    (c.desk_in.ensures.same.0 ∙ c.requires.table.0, (let w = c.requires.table.1 in let d = l.0 in omega arith), give_any m _ _ _ _ c.args.desk _ p.me.0 _ h.0 c.args.works _ c.args.taken.now refl c.desk_in.ensures.left h.1 h.2 l.2 l.1 c.requires.idle)

pub returns-clause-some : goal.returns-clause-some
returns-clause-some g c =
    let p = c.args.token.now in let h = c.requires.desk in
    told_some c.args.board.now.table_id.slots c.args.desk _ _ p.me.0 _ h.0 c.args.works _ c.args.taken.now refl c.desk_in.ensures.left h.1 h.2 c.store.ensures.2

pub returns-clause-none : goal.returns-clause-none
returns-clause-none g c =
    let p = c.args.token.now in let h = c.requires.desk in
    told_none c.args.board.now.table_id.slots c.args.desk _ _ p.me.0 _ h.0 c.args.works _ c.args.taken.now refl c.desk_in.ensures.left h.1 h.2 c.store.ensures.2
