use Rattle.std.proofs.Common.{arith}
use Rattle.hub_rule.proofs.DeskTurns.{read_pending}
use Rattle.hub_rule.proofs.pending.read_pending.Goals as goal

pub load-requires : goal.load-requires
load-requires g c =
    let m = g.S.Scene.meaning in
    let p = c.args.token.now in
    (c.requires.table.0, (let w = c.requires.table.1 in omega arith), read_pending m _ _ _ p.id p.me.0 p.me.1)

pub returns-clause-none : goal.returns-clause-none
returns-clause-none g c z = c.load.ensures.2.0 z

pub returns-clause-some : goal.returns-clause-some
returns-clause-some g c more = c.load.ensures.2.1 (λ z. omega arith)
