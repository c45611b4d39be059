use denote.Exit.{no}
use denote.Param.Send.{arg_send, arg_sync, param_send, param_sync}
use Rattle.std.proofs.Common.{◌∙◌}
use Rattle.group_locks.specs.Seats.{held_by, since_of}
use Rattle.replay_hub.proofs.Drawing.{idle_tries_are_shown}
use Rattle.replay_worker.proofs.Crossing.{entry-send, entry-sync}
use Rattle.replay_worker.proofs.Rounds.{idled}
use Rattle.replay_worker.proofs.trying.idle.Goals as goal

pub end_idle-requires-clause-hub : goal.end_idle-requires-clause-hub
end_idle-requires-clause-hub g c κs within = c.requires.draws.holds.hub

pub end_idle-requires-clause-leave : goal.end_idle-requires-clause-leave
end_idle-requires-clause-leave g c κs within = c.requires.draws.leave

pub end_idle-requires-clause-charged : goal.end_idle-requires-clause-charged
end_idle-requires-clause-charged g c κs within = c.requires.draws.holds.charged

pub end_idle-requires-clause-work : goal.end_idle-requires-clause-work
end_idle-requires-clause-work g c κs within = c.requires.draws.work

pub end_idle-requires-clause-carries : goal.end_idle-requires-clause-carries
end_idle-requires-clause-carries g c κs within = c.requires.draws.holds.carries

pub end_idle-requires-clause-idle : goal.end_idle-requires-clause-idle
end_idle-requires-clause-idle g c κs within =
    let t = g.J.ReplayTerms in
    let state = c.args.seat.now.state in
    idle_tries_are_shown t.deploy t.steps t.row_of t.channel_of t.part_of (t.in_hand c.args.held.now) (since_of state) (held_by state) c.args.tried c.requires.draws.holds.carries c.requires.idle

pub give_group-requires-clause-hub : goal.give_group-requires-clause-hub
give_group-requires-clause-hub g c κs within = c.end_idle.ensures.hub ∙ c.requires.draws.holds.hub

pub give_group-requires-clause-carries : goal.give_group-requires-clause-carries
give_group-requires-clause-carries g c κs within = c.end_idle.ensures.carries

pub returns-clause-ended : goal.returns-clause-ended
returns-clause-ended g c =
    let a = c.end_idle.ensures in
    let e = c.give_group.ensures in
    idled c.args.hub.now.table.shared.table_id c.end_idle.new.seat.state c.give_group.new.self.state e.hub (a.hub ∙ c.requires.draws.holds.hub) a.drawn.1 a.drawn.0 a.offered e.free e.tally e.works

pub returns-clause-empty : goal.returns-clause-empty
returns-clause-empty g c = c.give_group.ensures.empty

pub give_group-requires-send-S-Entry : goal.give_group-requires-send-S-Entry
give_group-requires-send-S-Entry g c κs within = param_send _ _ (arg_send _ no _ (entry-send _ _ c.type_bounds.send-J-Row c.type_bounds.send-J-Channel))

pub give_group-requires-sync-S-Entry : goal.give_group-requires-sync-S-Entry
give_group-requires-sync-S-Entry g c κs within = param_sync _ _ (arg_sync _ no _ (entry-sync _ _ c.type_bounds.sync-J-Row c.type_bounds.sync-J-Channel))
