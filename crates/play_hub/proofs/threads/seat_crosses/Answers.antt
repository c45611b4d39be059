use denote.Param.Send.{sendable}
use Rattle.space_row.proofs.Crossing.{row-send, row-sync}
use Rattle.play_hub.proofs.Crossing.{entry-send, entry-sync, seat-send, scene-sync}
use Rattle.play_hub.proofs.threads.seat_crosses.Goals as goal

pub crosses-requires-send-A : goal.crosses-requires-send-A
crosses-requires-send-A g c κs within =
    let a = row-send in
    let b = row-sync in
    let d = entry-send in
    let e = entry-sync in
    search (sendable, seat-send, scene-sync) depth 20
