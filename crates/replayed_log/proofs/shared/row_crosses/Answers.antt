use denote.Param.Send.{sendable}
use Rattle.replayed_log.proofs.Crossing.{sharded-send, sharded-sync}
use Rattle.replayed_log.proofs.shared.row_crosses.Goals as goal

pub crosses-requires-send-T : goal.crosses-requires-send-T
crosses-requires-send-T c κs = let a = sharded-send in search sendable depth 10

pub crosses-requires-sync-T : goal.crosses-requires-sync-T
crosses-requires-sync-T c κs = let a = sharded-sync in search sendable depth 10
