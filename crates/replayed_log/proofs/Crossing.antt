-- Rows, channels and shards of a replay may cross threads, and threads may share them and a log that is replayed.
use denote.RattleType.{RattleType}
use denote.Param.Send.{IsSend, IsSync, sendable}
use Rattle.std.proofs.Crossing.{crosses}
use Rattle.std.proofs.MapsCrossing.{crosses as maps_cross}
use Rattle.space_row.proofs.Crossing.{row-send, row-sync}
use Rattle.replay_space.specs.contracts.seen.Seen as Seen
use Rattle.replay_rows.specs.contracts.sharded.ShardedChannel as Channel
use Rattle.replay_rows.specs.contracts.sharded.ShardedRow as ShardedRow
use Rattle.replay_shards.specs.contracts.held.ReplayHeld as Held
use Rattle.replay_shards.specs.contracts.shard.ReplayShard as Shard
use Rattle.replayed_log.specs.contracts.log_replay.LogReplay as Replay

pub channel-send : IsSend Channel.the_row
channel-send = search (sendable, crosses) depth 40

pub channel-sync : IsSync Channel.the_row
channel-sync = search (sendable, crosses) depth 40

pub sharded-send : IsSend ShardedRow.the_row
sharded-send = let a = row-send in search (sendable, crosses) depth 40

pub sharded-sync : IsSync ShardedRow.the_row
sharded-sync = let a = row-sync in search (sendable, crosses) depth 40

pub seen-send : IsSend (Seen.the_row ShardedRow.the_row)
seen-send = let a = sharded-send in search (sendable, crosses) depth 40

pub seen-sync : IsSync (Seen.the_row ShardedRow.the_row)
seen-sync = let a = sharded-sync in search (sendable, crosses) depth 40

pub shard-send : IsSend Shard.the_row
shard-send = let a = seen-send in search (sendable, crosses, maps_cross) depth 60

pub shard-sync : IsSync Shard.the_row
shard-sync = let a = seen-sync in search (sendable, crosses, maps_cross) depth 60

pub held-send : IsSend Held.the_row
held-send = let a = seen-send in search (sendable, crosses, maps_cross) depth 60

pub held-sync : IsSync Held.the_row
held-sync = let a = seen-sync in search (sendable, crosses, maps_cross) depth 60

pub replay-sync : (N U : RattleType) → IsSync N → IsSync U → IsSync (Replay.the_row N U)
replay-sync n u s t = search (sendable, crosses, maps_cross) depth 60
