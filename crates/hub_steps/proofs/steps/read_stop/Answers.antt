use Rattle.std.proofs.Common.{arith}
use Rattle.hub_rule.proofs.Charges.{read_stop}
use Rattle.hub_steps.proofs.steps.read_stop.Goals as goal

pub load-requires : goal.load-requires
load-requires g c =
    let m = g.S.Scene.meaning in
    let p = c.args.token.now in
    (c.requires.table.0, (let w = c.requires.table.1 in omega arith), read_stop m _ _ _ p.id p.me.0 p.me.1)
