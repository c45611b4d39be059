-- Tables of rows may cross threads, and threads may share them.
use denote.Param.Send.{IsSend, IsSync, AllSend, AllSync, sendable, recorded_send, recorded_sync, struct_send, struct_sync}
use denote.Struct.Declared as D
use Rattle.std.proofs.Crossing.{crosses}
use Rattle.std.proofs.MapsCrossing.{crosses as maps_cross}
use Rattle.space_row.proofs.Crossing.{row-send, row-sync}
use Rattle.shard_counts.specs.contracts.keyed.ShardCounts as Counts
use Rattle.row_table.specs.contracts.table.Filed as Filed
use Rattle.row_table.specs.contracts.table.RowTable as Table
use Rattle.row_table.specs.contracts.table.RowTable.TheInside as Inside
use Rattle.rspace_table.specs.contracts.shard.Shard as Shard
use Rattle.rspace_table.specs.contracts.held.Held as Held

counts-send : IsSend (Counts.the_field).row
counts-send = search (sendable, crosses, maps_cross) depth 60

counts-sync : IsSync (Counts.the_field).row
counts-sync = search (sendable, crosses, maps_cross) depth 60

filed-send : IsSend Filed.the_row
filed-send = let a = row-send in search (sendable, crosses) depth 60

filed-sync : IsSync Filed.the_row
filed-sync = let a = row-sync in search (sendable, crosses) depth 60

inside-send : IsSend Inside.the_row
inside-send =
    let a = filed-send in
    let all : AllSend (D.shape Inside.the_type).fields = (search (sendable, crosses, maps_cross) depth 60, (search (sendable, crosses, maps_cross) depth 60, (search (sendable, crosses, maps_cross) depth 60, (counts-send, tt)))) in
    recorded_send _ _ _ Inside.the_type.to_one (struct_send (D.shape Inside.the_type) all)

inside-sync : IsSync Inside.the_row
inside-sync =
    let a = filed-sync in
    let all : AllSync (D.shape Inside.the_type).fields = (search (sendable, crosses, maps_cross) depth 60, (search (sendable, crosses, maps_cross) depth 60, (search (sendable, crosses, maps_cross) depth 60, (counts-sync, tt)))) in
    recorded_sync _ _ _ Inside.the_type.to_one (struct_sync (D.shape Inside.the_type) all)

pub table-send : IsSend Table.the_row
table-send = let a = inside-send in search sendable depth 10

pub table-sync : IsSync Table.the_row
table-sync = let a = inside-sync in search sendable depth 10

pub shard-send : IsSend Shard.the_row
shard-send = let a = table-send in search (sendable, crosses) depth 60

pub shard-sync : IsSync Shard.the_row
shard-sync = let a = table-sync in search (sendable, crosses) depth 60

pub held-send : IsSend Held.the_row
held-send = let a = table-send in let b = shard-send in search (sendable, crosses) depth 60

pub held-sync : IsSync Held.the_row
held-sync = let a = table-sync in let b = shard-sync in search (sendable, crosses) depth 60
