use denote.Exit.{no}
use denote.Param.Send.{arg_send, arg_sync, param_send, param_sync}
use Rattle.replay_worker.proofs.Crossing.{entry-send, entry-sync}
use Rattle.replay_worker.proofs.Rounds.{halted}
use Rattle.replay_worker.proofs.ends.give_up.Goals as goal

pub stop-requires-clause-hub : goal.stop-requires-clause-hub
stop-requires-clause-hub g c κs within = c.requires.seat.0.0

pub returns : goal.returns
returns g c =
    let e = c.stop.ensures in
    halted c.args.hub.now.table.shared.table_id c.args.seat.now.state c.stop.new.self.state e.hub c.requires.seat.0 c.requires.seat.1 e.held e.charged.1 e.stops

pub stop-requires-send-S-Entry : goal.stop-requires-send-S-Entry
stop-requires-send-S-Entry g c κs within = param_send _ _ (arg_send _ no _ (entry-send _ _ c.type_bounds.send-J-Row c.type_bounds.send-J-Channel))

pub stop-requires-sync-S-Entry : goal.stop-requires-sync-S-Entry
stop-requires-sync-S-Entry g c κs within = param_sync _ _ (arg_sync _ no _ (entry-sync _ _ c.type_bounds.sync-J-Row c.type_bounds.sync-J-Channel))
