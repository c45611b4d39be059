use denote.Param.Send.{sendable}
use Rattle.space_row.proofs.Crossing.{row-send, row-sync}
use Rattle.space_row.proofs.threads.row_crosses.Goals as goal

pub crosses-requires-send-T : goal.crosses-requires-send-T
crosses-requires-send-T c κs = let a = row-send in search sendable depth 10

pub crosses-requires-sync-T : goal.crosses-requires-sync-T
crosses-requires-sync-T c κs = let a = row-sync in search sendable depth 10
