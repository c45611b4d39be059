use denote.Exit.{no}
use denote.Param.Send.{arg_send, arg_sync, param_send, param_sync}
use Rattle.play_hub.proofs.Crossing.{entry-send, entry-sync}
use Rattle.space_row.proofs.Crossing.{row-send, row-sync}
use Rattle.play_worker.proofs.worker.work_through.Goals as goal

pub stop-requires-send-S-Work : goal.stop-requires-send-S-Work
stop-requires-send-S-Work g c κs within = param_send _ _ (arg_send _ no _ row-send)

pub stop-requires-send-S-Entry : goal.stop-requires-send-S-Entry
stop-requires-send-S-Entry g c κs within = param_send _ _ (arg_send _ no _ entry-send)

pub stop-requires-sync-S-Work : goal.stop-requires-sync-S-Work
stop-requires-sync-S-Work g c κs within = param_sync _ _ (arg_sync _ no _ row-sync)

pub stop-requires-sync-S-Entry : goal.stop-requires-sync-S-Entry
stop-requires-sync-S-Entry g c κs within = param_sync _ _ (arg_sync _ no _ entry-sync)

pub take_op-requires-send-S-Work : goal.take_op-requires-send-S-Work
take_op-requires-send-S-Work g c κs within = param_send _ _ (arg_send _ no _ row-send)

pub take_op-requires-send-S-Entry : goal.take_op-requires-send-S-Entry
take_op-requires-send-S-Entry g c κs within = param_send _ _ (arg_send _ no _ entry-send)

pub take_op-requires-sync-S-Work : goal.take_op-requires-sync-S-Work
take_op-requires-sync-S-Work g c κs within = param_sync _ _ (arg_sync _ no _ row-sync)

pub take_op-requires-sync-S-Entry : goal.take_op-requires-sync-S-Entry
take_op-requires-sync-S-Entry g c κs within = param_sync _ _ (arg_sync _ no _ entry-sync)
