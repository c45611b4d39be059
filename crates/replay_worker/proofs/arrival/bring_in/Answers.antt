use denote.Exit.{no}
use denote.Param.Send.{arg_send, arg_sync, param_send, param_sync}
use Rattle.replay_hub.specs.declared.deed.Task.TheVariants.{Arrive}
use Rattle.replay_hub.specs.Values.{values}
use Rattle.replay_worker.proofs.Crossing.{entry-send, entry-sync}
use Rattle.replay_worker.proofs.Rounds.{taken}
use Rattle.replay_worker.proofs.arrival.bring_in.Goals as goal

pub give_up-requires-clause-seat : goal.give_up-requires-clause-seat
give_up-requires-clause-seat g c κs within = (c.requires.ready.rest, c.requires.ready.charged)

pub take_group-requires-clause-hub : goal.take_group-requires-clause-hub
take_group-requires-clause-hub g c κs within = c.requires.ready.rest.0

pub take_group-requires-clause-free : goal.take_group-requires-clause-free
take_group-requires-clause-free g c κs within = c.requires.ready.rest.1

pub take_group-requires-clause-empty : goal.take_group-requires-clause-empty
take_group-requires-clause-empty g c κs within = c.requires.ready.empty

pub draw_arrival-drawn-requires-clause-draws : goal.draw_arrival-drawn-requires-clause-draws
draw_arrival-drawn-requires-clause-draws g c κs within =
    let t = g.J.ReplayTerms in
    let e = c.take_group.ensures in
    taken c.args.hub.now.table.shared.table_id c.args.seat.now.state c.take_group.new.self.state e.hub (Arrive c.args.coming) (t.in_hand c.args.held.now) (t.in_hand c.take_group.new.held) e.tally e.works e.room
    (values t.deploy t.steps t.row_of t.channel_of t.part_of) c.in-Ok.known.shards c.requires.ready e.since e.turns e.carries

pub draw_arrival-drawn-requires-clause-arriving : goal.draw_arrival-drawn-requires-clause-arriving
draw_arrival-drawn-requires-clause-arriving g c κs within = c.in-Ok.ensures

pub go_home-requires-clause-holds : goal.go_home-requires-clause-holds
go_home-requires-clause-holds g c κs within = c.draw_arrival-drawn.ensures.holds

pub go_home-requires-clause-drawn : goal.go_home-requires-clause-drawn
go_home-requires-clause-drawn g c κs within = c.draw_arrival-drawn.ensures.drawn

pub returns-clause-ended : goal.returns-clause-ended
returns-clause-ended g c = c.go_home.ensures.ended

pub returns-clause-empty : goal.returns-clause-empty
returns-clause-empty g c = c.go_home.ensures.empty

pub returns-in_default-clause-ended : goal.returns-in_default-clause-ended
returns-in_default-clause-ended g c = c.give_up.ensures

pub returns-in_default-clause-empty : goal.returns-in_default-clause-empty
returns-in_default-clause-empty g c = c.requires.ready.empty

pub take_group-requires-send-S-Entry : goal.take_group-requires-send-S-Entry
take_group-requires-send-S-Entry g c κs within = param_send _ _ (arg_send _ no _ (entry-send _ _ c.type_bounds.send-J-Row c.type_bounds.send-J-Channel))

pub take_group-requires-sync-S-Entry : goal.take_group-requires-sync-S-Entry
take_group-requires-sync-S-Entry g c κs within = param_sync _ _ (arg_sync _ no _ (entry-sync _ _ c.type_bounds.sync-J-Row c.type_bounds.sync-J-Channel))
