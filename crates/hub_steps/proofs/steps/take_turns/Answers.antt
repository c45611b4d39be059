use Rattle.std.proofs.Common.{refl, arith, w64}
use Rattle.std.specs.Int.{trailing_zeros}
use Rattle.hub_steps.proofs.Groups.{below_none}
use Rattle.hub_steps.proofs.SetBits.{taking_first, taking_up, taking_more, taking_end, less_without, least_bit}
use Rattle.hub_steps.proofs.steps.take_turns.Goals as goal

pub loop-rest-init : goal.loop-rest-init
loop-rest-init g c = let f = c.requires.fresh in taking_first g.S.Scene.meaning c.args.token.now _ c.args.shards f.0 f.1 f.2 c.requires.none

pub take_turn-shard-requires-clause-counts : goal.take_turn-shard-requires-clause-counts
take_turn-shard-requires-clause-counts g c κs within =
    let n = c.loop-rest.rest in let some = c.loop-rest-test.true in let fits = c.loop-rest.auto.rest-fits in
    let z = least_bit n (trailing_zeros w64 n) refl (omega arith) (omega arith) in (c.requires.counts, z.0)

pub add-requires-clause-absent : goal.add-requires-clause-absent
add-requires-clause-absent g c =
    let n = c.loop-rest.rest in let some = c.loop-rest-test.true in let fits = c.loop-rest.auto.rest-fits in
    let z = least_bit n (trailing_zeros w64 n) refl (omega arith) (omega arith) in
    let u = taking_up g.S.Scene.meaning c.args.token.now c.loop-rest.token _ c.args.shards n (trailing_zeros w64 n) c.loop-rest.invariant z.0 z.1 z.2 in
    u.0.carries.1 (trailing_zeros w64 n) (below_none (trailing_zeros w64 n) c.loop-rest.token.me.0.held u.0.below)

pub loop-rest-smaller : goal.loop-rest-smaller
loop-rest-smaller g c =
    let n = c.loop-rest.rest in let some = c.loop-rest-test.true in let fits = c.loop-rest.auto.rest-fits in
    let z = least_bit n (trailing_zeros w64 n) refl (omega arith) (omega arith) in less_without n (trailing_zeros w64 n) z.0 z.1

pub loop-rest-preserved : goal.loop-rest-preserved
loop-rest-preserved g c =
    let n = c.loop-rest.rest in let some = c.loop-rest-test.true in let fits = c.loop-rest.auto.rest-fits in
    let z = least_bit n (trailing_zeros w64 n) refl (omega arith) (omega arith) in
    let e = c.take_turn-shard.ensures in
    taking_more g.S.Scene.meaning c.args.token.now c.loop-rest.token c.take_turn-shard.new.token _ _ c.args.shards n (trailing_zeros w64 n) c.take_turn-shard.result c.loop-rest.invariant z.0 z.1 z.2
    e.same.0 e.same.1 e.view e.out c.add.ensures.here c.add.ensures.others

pub returns-clause-falls : goal.returns-clause-falls
returns-clause-falls g c =
    let t = taking_end g.S.Scene.meaning c.args.token.now c.loop-rest.token _ c.args.shards c.loop-rest.rest c.loop-rest.invariant (let z = c.loop-rest-test.false in omega arith) in (t.0.below, t.0.falls)

pub returns-clause-numbers : goal.returns-clause-numbers
returns-clause-numbers g c =
    (taking_end g.S.Scene.meaning c.args.token.now c.loop-rest.token _ c.args.shards c.loop-rest.rest c.loop-rest.invariant (let z = c.loop-rest-test.false in omega arith)).1
