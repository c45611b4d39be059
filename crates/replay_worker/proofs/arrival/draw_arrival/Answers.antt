use Rattle.std.proofs.Common.{refl, sym}
use Rattle.group_locks.specs.Seats.{held_by, since_of}
use Rattle.replay_hub.specs.Values.{values}
use Rattle.replay_worker.proofs.Hands.{arrival-shown, carries-alike, hand-has, within}
use Rattle.replay_worker.proofs.Rounds.{holds-on}
use Rattle.replay_worker.proofs.arrival.draw_arrival.Goals as goal

pub arrive-requires-clause-held : goal.arrive-requires-clause-held
arrive-requires-clause-held g c =
    let t = g.J.ReplayTerms in
    let state = c.args.seat.now.state in
    let d = c.requires.draws in
    hand-has (values t.deploy t.steps t.row_of t.channel_of t.part_of) (held_by state) c.args.arrival.known.shards d.turns (since_of state) (t.in_hand c.args.held.now) d.holds.carries

pub returns-in_default-clause-holds : goal.returns-in_default-clause-holds
returns-in_default-clause-holds g c =
    let t = g.J.ReplayTerms in
    let state = c.args.seat.now.state in
    let h = c.requires.draws.holds in
    record {
      hub = h.hub;
      charged = h.charged;
      carries = carries-alike (values t.deploy t.steps t.row_of t.channel_of t.part_of) (since_of state) (held_by state) (t.in_hand c.args.held.now) (t.in_hand c.arrive.new.held) c.in_default.ensures.back h.carries;
    }

pub draw_entry-requires-clause-hub : goal.draw_entry-requires-clause-hub
draw_entry-requires-clause-hub g c κs inside = c.requires.draws.holds.hub

pub draw_entry-requires-clause-leave : goal.draw_entry-requires-clause-leave
draw_entry-requires-clause-leave g c κs inside = c.requires.draws.leave

pub draw_entry-requires-clause-charged : goal.draw_entry-requires-clause-charged
draw_entry-requires-clause-charged g c κs inside = c.requires.draws.holds.charged

pub draw_entry-requires-clause-within : goal.draw_entry-requires-clause-within
draw_entry-requires-clause-within g c κs inside = within (held_by c.args.seat.now.state) c.args.arrival.known.shards c.requires.draws.turns

pub draw_entry-requires-clause-shown : goal.draw_entry-requires-clause-shown
draw_entry-requires-clause-shown g c κs inside =
    let t = g.J.ReplayTerms in
    let state = c.args.seat.now.state in
    let d = c.requires.draws in
    arrival-shown t.deploy t.steps t.row_of t.channel_of t.part_of c.args.arrival.coming (record { coming = c.of-seen.result; next = c.args.arrival.known.next }) c.of-seen.ensures c.args.arrival.known refl c.requires.arriving (since_of state)
    (held_by state) (t.in_hand c.args.held.now) (t.in_hand c.arrive.new.held) d.holds.carries c.in-Ok.ensures.arrived

pub returns-clause-holds : goal.returns-clause-holds
returns-clause-holds g c =
    let t = g.J.ReplayTerms in
    let e = c.draw_entry.ensures in
    holds-on c.args.hub.now.table.shared.table_id c.args.seat.now.state c.draw_entry.new.seat.state e.hub (values t.deploy t.steps t.row_of t.channel_of t.part_of) (t.in_hand c.args.held.now) (t.in_hand c.arrive.new.held)
    c.requires.draws.holds e.ended.1 e.carries

pub returns-clause-drawn : goal.returns-clause-drawn
returns-clause-drawn g c = record { ended = c.draw_entry.ensures.ended.0; offered = sym c.draw_entry.ensures.offered }
