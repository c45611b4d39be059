use denote.Param.Send.{sendable}
use Rattle.rspace_table.proofs.Crossing.{shard-send, shard-sync, held-send, held-sync}
use Rattle.gate_runs.proofs.plays.played.Goals as goal

pub play-requires-send-T-Shard : goal.play-requires-send-T-Shard
play-requires-send-T-Shard g c κs within = let a = shard-send in search sendable depth 10

pub play-requires-send-T-Held : goal.play-requires-send-T-Held
play-requires-send-T-Held g c κs within = let a = held-send in search sendable depth 10

pub play-requires-sync-T-Shard : goal.play-requires-sync-T-Shard
play-requires-sync-T-Shard g c κs within = let a = shard-sync in search sendable depth 10

pub play-requires-sync-T-Held : goal.play-requires-sync-T-Held
play-requires-sync-T-Held g c κs within = let a = held-sync in search sendable depth 10
