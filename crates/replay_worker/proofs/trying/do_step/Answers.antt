use Rattle.std.proofs.Common.{ℕ, sym, subst}
use Rattle.group_locks.specs.Seats.{held_by, since_of}
use Rattle.replay_hub.specs.declared.deed.Did.TheVariants.{Done}
use Rattle.replay_hub.specs.declared.deed.Task.TheVariants.{Index}
use Rattle.replay_hub.specs.Values.{deed_of, has_bit, values}
use Rattle.replay_worker.specs.Seats.{HasJob}
use Rattle.replay_worker.proofs.Hands.{all-touched, changed, hand-bits, within}
use Rattle.replay_worker.proofs.Rounds.{holds-on}
use Rattle.replay_worker.proofs.trying.do_step.Goals as goal

pub draw_entry-requires-clause-hub : goal.draw_entry-requires-clause-hub
draw_entry-requires-clause-hub g c κs inside = c.requires.work.1.holds.hub

pub draw_entry-requires-clause-leave : goal.draw_entry-requires-clause-leave
draw_entry-requires-clause-leave g c κs inside = c.requires.work.1.leave

pub draw_entry-requires-clause-charged : goal.draw_entry-requires-clause-charged
draw_entry-requires-clause-charged g c κs inside = c.requires.work.1.holds.charged

pub draw_entry-requires-clause-work : goal.draw_entry-requires-clause-work
draw_entry-requires-clause-work g c κs inside =
    let w = c.requires.work in
    let state = c.args.seat.now.state in
    let named = subst (λ (n : ℕ). HasJob (Index (record { step = n; channel = w.0.channel })) state) (sym w.2.same_step) w.1.work in
    subst (λ z. HasJob (Index (record { step = c.args.doing.made.step; channel = z })) state) (sym w.2.same_channel) named

pub draw_entry-requires-clause-within : goal.draw_entry-requires-clause-within
draw_entry-requires-clause-within g c κs inside = within (held_by c.args.seat.now.state) c.args.shards c.requires.work.1.turns

pub draw_entry-requires-clause-shown : goal.draw_entry-requires-clause-shown
draw_entry-requires-clause-shown g c κs inside =
    let t = g.J.ReplayTerms in
    let state = c.args.seat.now.state in
    let old = t.in_hand c.args.held.now in
    let new = t.in_hand c.finish.new.held in
    let can = c.requires.work.1 in
    let bits = hand-bits (held_by state) c.args.shards can.turns (values t.deploy t.steps t.row_of t.channel_of t.part_of) (since_of state) old c.ranges.shards.fits can.holds.carries in (
      old,
      can.holds.carries,
      c.requires.work.2.shows,
      changed t.deploy t.steps t.row_of t.channel_of t.part_of (record { did = Done c.args.doing.made; shards = c.args.shards }) old new
          (all-touched t.part_of (has_bit c.args.shards) (deed_of t.row_of t.channel_of (Done c.args.doing.made)) old new bits c.finish.ensures),
    )

pub go_home-requires-clause-holds : goal.go_home-requires-clause-holds
go_home-requires-clause-holds g c κs inside =
    let t = g.J.ReplayTerms in
    let e = c.draw_entry.ensures in
    holds-on c.args.hub.now.table.shared.table_id c.args.seat.now.state c.draw_entry.new.seat.state e.hub (values t.deploy t.steps t.row_of t.channel_of t.part_of) (t.in_hand c.args.held.now) (t.in_hand c.finish.new.held)
    c.requires.work.1.holds e.ended.1 e.carries

pub go_home-requires-clause-drawn : goal.go_home-requires-clause-drawn
go_home-requires-clause-drawn g c κs inside = record { ended = c.draw_entry.ensures.ended.0; offered = sym c.draw_entry.ensures.offered }

pub returns-clause-ended : goal.returns-clause-ended
returns-clause-ended g c = c.go_home.ensures.ended

pub returns-clause-empty : goal.returns-clause-empty
returns-clause-empty g c = c.go_home.ensures.empty
