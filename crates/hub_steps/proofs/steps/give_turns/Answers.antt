use Rattle.std.proofs.Common.{sym}
use Rattle.hub_steps.proofs.SetBits.{returning_first, giving_top, is_carried, top_held, returning_less, less_without, top_bit}
use Rattle.hub_steps.proofs.steps.give_turns.Goals as goal

pub loop-rest-init : goal.loop-rest-init
loop-rest-init g c = let r = c.requires in returning_first g.S.Scene.meaning c.args.token.now _ c.args.shards r.since r.out r.falls.0 r.falls.1 r.carries r.numbers

pub unreachable-requires : goal.unreachable-requires
unreachable-requires g c =
    let m = g.S.Scene.meaning in let l = c.ilog2-number.ensures in let k = c.ilog2-number.result in
    let u = giving_top m c.args.token.now c.loop-rest.token _ c.loop-rest.rest k c.loop-rest.invariant l.bound l.power_le l.next_power_gt in
    is_carried m c.args.token.now c.loop-rest.token _ k u.0 u.1 (sym c.in_default.ensures.shard)

pub give_turn-requires-clause-top : goal.give_turn-requires-clause-top
give_turn-requires-clause-top g c κs within =
    let m = g.S.Scene.meaning in let l = c.ilog2-number.ensures in let k = c.ilog2-number.result in
    let u = giving_top m c.args.token.now c.loop-rest.token _ c.loop-rest.rest k c.loop-rest.invariant l.bound l.power_le l.next_power_gt in
    top_held m c.args.token.now c.loop-rest.token _ k c.in-Some.shard u.0 (sym c.in-Some.ensures.shard)

pub loop-rest-smaller : goal.loop-rest-smaller
loop-rest-smaller g c =
    let l = c.ilog2-number.ensures in let k = c.ilog2-number.result in
    less_without c.loop-rest.rest k l.bound (top_bit k c.loop-rest.rest l.power_le l.next_power_gt)

pub loop-rest-preserved : goal.loop-rest-preserved
loop-rest-preserved g c =
    let m = g.S.Scene.meaning in let l = c.ilog2-number.ensures in let k = c.ilog2-number.result in let e = c.give_turn.ensures in
    returning_less m c.args.token.now c.loop-rest.token c.give_turn.new.token _ _ c.loop-rest.rest k c.in-Some.shard c.loop-rest.invariant l.bound l.power_le l.next_power_gt (sym c.in-Some.ensures.shard)
    e.same.0 e.same.1 e.view e.out c.in-Some.ensures.here c.in-Some.ensures.others
