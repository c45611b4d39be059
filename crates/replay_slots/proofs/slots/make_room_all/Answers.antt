use Rattle.std.proofs.Common.{◌<◌, ◌+◌, arith, length}
use Rattle.replay_rows.specs.Bits.{has_bit}
use Rattle.replay_slots.proofs.Placing.{only-same, same-further, same-all, filed-all}
use Rattle.replay_slots.proofs.slots.make_room_all.Goals as goal

pub returns-in_err-make_room_if-clause-same : goal.returns-in_err-make_room_if-clause-same
returns-in_err-make_room_if-clause-same c =
    let old = c.args.slots.now.items in
    let new = c.loop-number.slots.items in
    let h : c.loop-number.number < length old = omega (arith, c.loop-number-test.true, c.requires) in
    same-all (c.loop-number.number + 1) old _
    (same-further c.args.id.now.0 (has_bit c.args.shards) c.loop-number.number old new c.index_mut.result.now c.make_room_if.new.slot c.loop-number.invariant h c.index_mut.ensures.value c.make_room_if.ensures.same c.make_room_if.ensures.filed)

pub returns-in_err-make_room_if-clause-filed : goal.returns-in_err-make_room_if-clause-filed
returns-in_err-make_room_if-clause-filed c =
    let old = c.args.slots.now.items in
    let new = c.loop-number.slots.items in
    let h : c.loop-number.number < length old = omega (arith, c.loop-number-test.true, c.requires) in
    filed-all (c.loop-number.number + 1) old _
    (same-further c.args.id.now.0 (has_bit c.args.shards) c.loop-number.number old new c.index_mut.result.now c.make_room_if.new.slot c.loop-number.invariant h c.index_mut.ensures.value c.make_room_if.ensures.same c.make_room_if.ensures.filed)

pub returns-clause-same : goal.returns-clause-same
returns-clause-same c =
    same-all c.loop-number.number c.args.slots.now.items c.loop-number.slots.items (only-same c.args.id.now.0 (has_bit c.args.shards) c.loop-number.number c.args.slots.now.items c.loop-number.slots.items c.loop-number.invariant)

pub returns-clause-filed : goal.returns-clause-filed
returns-clause-filed c =
    filed-all c.loop-number.number c.args.slots.now.items c.loop-number.slots.items (only-same c.args.id.now.0 (has_bit c.args.shards) c.loop-number.number c.args.slots.now.items c.loop-number.slots.items c.loop-number.invariant)
