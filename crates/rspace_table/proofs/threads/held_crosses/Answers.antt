use denote.Param.Send.{sendable}
use Rattle.rspace_table.proofs.Crossing.{held-send, held-sync}
use Rattle.rspace_table.proofs.threads.held_crosses.Goals as goal

pub crosses-requires-send-T : goal.crosses-requires-send-T
crosses-requires-send-T c κs = let a = held-send in search sendable depth 10

pub crosses-requires-sync-T : goal.crosses-requires-sync-T
crosses-requires-sync-T c κs = let a = held-sync in search sendable depth 10
