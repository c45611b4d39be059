use Rattle.std.proofs.Common.{ap, length, length-append, arith}
use Rattle.hub_rule.proofs.moving.move_all.Goals as goal

pub push_reserved-requires : goal.push_reserved-requires
push_reserved-requires g c =
    let i = c.loop-thing.invariant in
    let s = c.in-Some.ensures.steps in
    let o = c.loop-thing.all.ok in
    omega (arith, ap length i.all, length-append c.loop-thing.all.items c.loop-thing.thing-iterator.rest.items, length-append c.args.all.now.items c.args.things.items, ap length s.0)
