use denote.Param.Send.{sendable}
use Rattle.rspace_table.proofs.Crossing.{shard-send, shard-sync}
use Rattle.rspace_table.proofs.threads.shard_crosses.Goals as goal

pub crosses-requires-send-T : goal.crosses-requires-send-T
crosses-requires-send-T c κs = let a = shard-send in search sendable depth 10

pub crosses-requires-sync-T : goal.crosses-requires-sync-T
crosses-requires-sync-T c κs = let a = shard-sync in search sendable depth 10
