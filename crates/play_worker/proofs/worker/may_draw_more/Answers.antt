use denote.Exit.{no}
use denote.Param.Send.{arg_send, arg_sync, param_send, param_sync}
use Rattle.play_hub.proofs.Crossing.{entry-send, entry-sync}
use Rattle.space_row.proofs.Crossing.{row-send, row-sync}
use Rattle.play_worker.proofs.worker.may_draw_more.Goals as goal

pub again-requires-send-S-Work : goal.again-requires-send-S-Work
again-requires-send-S-Work g c κs within = param_send _ _ (arg_send _ no _ row-send)

pub again-requires-send-S-Entry : goal.again-requires-send-S-Entry
again-requires-send-S-Entry g c κs within = param_send _ _ (arg_send _ no _ entry-send)

pub again-requires-sync-S-Work : goal.again-requires-sync-S-Work
again-requires-sync-S-Work g c κs within = param_sync _ _ (arg_sync _ no _ row-sync)

pub again-requires-sync-S-Entry : goal.again-requires-sync-S-Entry
again-requires-sync-S-Entry g c κs within = param_sync _ _ (arg_sync _ no _ entry-sync)

pub stop-requires-send-S-Work : goal.stop-requires-send-S-Work
stop-requires-send-S-Work g c κs within = param_send _ _ (arg_send _ no _ row-send)

pub stop-requires-send-S-Entry : goal.stop-requires-send-S-Entry
stop-requires-send-S-Entry g c κs within = param_send _ _ (arg_send _ no _ entry-send)

pub stop-requires-sync-S-Work : goal.stop-requires-sync-S-Work
stop-requires-sync-S-Work g c κs within = param_sync _ _ (arg_sync _ no _ row-sync)

pub stop-requires-sync-S-Entry : goal.stop-requires-sync-S-Entry
stop-requires-sync-S-Entry g c κs within = param_sync _ _ (arg_sync _ no _ entry-sync)

pub may_go-requires-send-S-Work : goal.may_go-requires-send-S-Work
may_go-requires-send-S-Work g c κs within = param_send _ _ (arg_send _ no _ row-send)

pub may_go-requires-send-S-Entry : goal.may_go-requires-send-S-Entry
may_go-requires-send-S-Entry g c κs within = param_send _ _ (arg_send _ no _ entry-send)

pub may_go-requires-sync-S-Work : goal.may_go-requires-sync-S-Work
may_go-requires-sync-S-Work g c κs within = param_sync _ _ (arg_sync _ no _ row-sync)

pub may_go-requires-sync-S-Entry : goal.may_go-requires-sync-S-Entry
may_go-requires-sync-S-Entry g c κs within = param_sync _ _ (arg_sync _ no _ entry-sync)
