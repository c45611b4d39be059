use denote.Param.Send.{sendable}
use Rattle.rspace_table.proofs.Crossing.{table-send, table-sync}
use Rattle.rspace_table.proofs.threads.table_crosses.Goals as goal

pub crosses-requires-send-T : goal.crosses-requires-send-T
crosses-requires-send-T c κs = let a = table-send in search sendable depth 10

pub crosses-requires-sync-T : goal.crosses-requires-sync-T
crosses-requires-sync-T c κs = let a = table-sync in search sendable depth 10
