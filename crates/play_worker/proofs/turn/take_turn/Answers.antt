use denote.Exit.{no}
use denote.Param.Send.{arg_send, arg_sync, param_send, param_sync}
use Rattle.play_hub.proofs.Crossing.{entry-send, entry-sync}
use Rattle.space_row.proofs.Crossing.{row-send, row-sync}
use Rattle.play_worker.proofs.Seats.{drawn-home, work-same}
use Rattle.play_worker.proofs.turn.take_turn.Goals as goal

pub stop-requires-send-S-Work : goal.stop-requires-send-S-Work
stop-requires-send-S-Work g c κs within = param_send _ _ (arg_send _ no _ row-send)

pub stop-requires-send-S-Entry : goal.stop-requires-send-S-Entry
stop-requires-send-S-Entry g c κs within = param_send _ _ (arg_send _ no _ entry-send)

pub stop-requires-sync-S-Work : goal.stop-requires-sync-S-Work
stop-requires-sync-S-Work g c κs within = param_sync _ _ (arg_sync _ no _ row-sync)

pub stop-requires-sync-S-Entry : goal.stop-requires-sync-S-Entry
stop-requires-sync-S-Entry g c κs within = param_sync _ _ (arg_sync _ no _ entry-sync)

pub give_group-requires-send-S-Work : goal.give_group-requires-send-S-Work
give_group-requires-send-S-Work g c κs within = param_send _ _ (arg_send _ no _ row-send)

pub give_group-requires-send-S-Entry : goal.give_group-requires-send-S-Entry
give_group-requires-send-S-Entry g c κs within = param_send _ _ (arg_send _ no _ entry-send)

pub give_group-requires-sync-S-Work : goal.give_group-requires-sync-S-Work
give_group-requires-sync-S-Work g c κs within = param_sync _ _ (arg_sync _ no _ row-sync)

pub give_group-requires-sync-S-Entry : goal.give_group-requires-sync-S-Entry
give_group-requires-sync-S-Entry g c κs within = param_sync _ _ (arg_sync _ no _ entry-sync)

pub stop-requires-in-Err-send-S-Work : goal.stop-requires-in-Err-send-S-Work
stop-requires-in-Err-send-S-Work g c κs within = param_send _ _ (arg_send _ no _ row-send)

pub stop-requires-in-Err-send-S-Entry : goal.stop-requires-in-Err-send-S-Entry
stop-requires-in-Err-send-S-Entry g c κs within = param_send _ _ (arg_send _ no _ entry-send)

pub stop-requires-in-Err-sync-S-Work : goal.stop-requires-in-Err-sync-S-Work
stop-requires-in-Err-sync-S-Work g c κs within = param_sync _ _ (arg_sync _ no _ row-sync)

pub stop-requires-in-Err-sync-S-Entry : goal.stop-requires-in-Err-sync-S-Entry
stop-requires-in-Err-sync-S-Entry g c κs within = param_sync _ _ (arg_sync _ no _ entry-sync)

pub settle-requires-clause-drawn : goal.settle-requires-clause-drawn
settle-requires-clause-drawn g c κs within =
    let before = c.take_shown.new.seat.state in
    let mid = c.draw-drawn.new.seat.state in
    let new = c.give_group.new.self.state in (
      before,
      work-same c.args.taken.from c.args.taken.op.now c.args.seat.now.state before c.take_shown.ensures.same c.requires.work.0,
      drawn-home c.args.taken.from before mid new c.in-Ok-drawn.drawn c.in-Ok-drawn.ensures.drawn c.give_group.ensures.hub c.give_group.ensures.drawn c.give_group.ensures.tally c.give_group.ensures.works,
    )
