use Rattle.std.proofs.Common.{◌+◌, ◌*◌, arith}
use Rattle.hub_rule.proofs.DeskTurns.{beside}
use Rattle.hub_desks.proofs.desks.put_mark.Goals as goal

pub store-requires : goal.store-requires
store-requires g c =
    let m = g.S.Scene.meaning in
    let p = c.args.token.now in
    (c.requires.table.0, (let w = c.requires.table.1 in let d = c.requires.low in omega arith), beside m _ _ _ p.id (c.args.desk * 8 + 529) (λ _. c.args.mark) p.me.0 p.me.1 (omega arith) (λ d lt e. omega arith))
