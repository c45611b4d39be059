use Rattle.std.proofs.Common.{[]}
use Rattle.replay_slots.proofs.Arriving.{all-arrived, all-gained-filed}
use Rattle.replay_slots.proofs.slots.arrive_in.Goals as goal

pub returns-clause-filed : goal.returns-clause-filed
returns-clause-filed c f = all-gained-filed c.in_ok-copies.copies.items c.make_room_all.new.slots.items c.put_all.new.slots.items c.put_all.ensures.put (c.in_ok-make_room_all.ensures.filed f)

pub returns-clause-arrived : goal.returns-clause-arrived
returns-clause-arrived c next =
    all-arrived c.args.row.now c.args.from c.args.shards c.in_ok-copies.copies.items c.in_ok-copies.ensures.long c.in_ok-copies.ensures.are c.args.slots.now.items c.make_room_all.new.slots.items c.requires.held c.put_all.new.slots.items c.requires.shards
    c.in_ok-make_room_all.ensures.same c.put_all.ensures.put next

pub returns-clause-absent : goal.returns-clause-absent
returns-clause-absent c = (returns-clause-arrived c []).absent
