use denote.Param.Send.{sendable}
use Rattle.space_row.proofs.Crossing.{row-send, row-sync}
use Rattle.play_hub.proofs.Crossing.{entry-send, entry-sync, hub-sync, scene-sync}
use Rattle.play_hub.proofs.threads.hub_is_shared.Goals as goal

pub shared-requires-sync-A : goal.shared-requires-sync-A
shared-requires-sync-A g c κs within =
    let a = row-send in
    let b = row-sync in
    let d = entry-send in
    let e = entry-sync in
    search (sendable, hub-sync, scene-sync) depth 20
