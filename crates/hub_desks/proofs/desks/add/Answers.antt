use Rattle.std.proofs.Common.{◌+◌, ◌%◌, ◌^◌, arith}
use Rattle.hub_rule.proofs.DeskTurns.{beside}
use Rattle.hub_desks.proofs.desks.add.Goals as goal

pub fetch_add-requires : goal.fetch_add-requires
fetch_add-requires g c =
    let m = g.S.Scene.meaning in
    let p = c.args.token.now in let r = c.requires.word in
    (c.requires.table.0, (let w = c.requires.table.1 in let b = r.1 in omega arith), beside m _ _ _ p.id c.args.word (λ k. (k + c.args.more) % 2 ^ 64) p.me.0 p.me.1 (let a = r.0 in omega arith) (λ d lt e. let a = r.0 in omega arith))
