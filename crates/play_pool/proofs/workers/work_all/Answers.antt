use denote.Exit.{no}
use denote.Param.{param}
use denote.Param.Send.{arg_send, arg_sync, copied_sync, param_send, sendable}
use Rattle.std.proofs.Crossing.{crosses, sync}
use Rattle.std.proofs.lemmas.Result.{IfOk-weaker}
use Rattle.numbered_jobs.proofs.Sharing.{five-shared}
use Rattle.space_row.proofs.Crossing.{row-send, row-sync}
use Rattle.play_hub.proofs.Crossing.{entry-send, entry-sync, hub-sync, scene-sync, seat-send}
use Rattle.play_hub.specs.contracts.entry.PlayEntry as Entry
use Rattle.play_hub.specs.contracts.scene.PlayScene as Scene
use Rattle.play_hub.specs.contracts.scene.PlaySceneScene.TheImpl as Impl
use Rattle.play_pool.proofs.workers.work_all.Goals as goal

pub side_by_side-requires-send-T : goal.side_by_side-requires-send-T
side_by_side-requires-send-T g c κs within =
    let b = c.type_bounds in
    let scene = Scene.the_row (param 1 g.row.J) (param 2 g.row.T) in
    param_send _ _ (arg_send _ no _ (seat-send scene Entry.the_row _ (param 5 g.row.T-Shard) (param 6 g.row.T-Held) entry-send row-send b.send-T-Shard b.send-T-Held))

pub side_by_side-requires-sync-F : goal.side_by_side-requires-sync-F
side_by_side-requires-sync-F g c κs within =
    let b = c.type_bounds in
    let terms = param 1 g.row.J in let tables = param 2 g.row.T in let shard = param 5 g.row.T-Shard in let held = param 6 g.row.T-Held in
    let ghosts = Impl.ghosts terms tables shard held g.J.PlayTerms Impl.no_dict g.T.ShardTables Impl.no_dict Impl.no_dict Impl.no_dict in
    let hub = hub-sync (Scene.the_row terms tables) Entry.the_row _ shard held ghosts (scene-sync terms tables b.sync-J b.sync-T) row-send b.send-T-Shard in
    copied_sync _ _ (arg_sync _ no _ (five-shared _ _ _ _ _ _ _ _ _ _ _ _ _ _ _ _ b.sync-R sync b.sync-G b.sync-M hub))

pub side_by_side-requires-clause-accepts : goal.side_by_side-requires-clause-accepts
side_by_side-requires-clause-accepts g c κs within = λ number k d lt.
    ((c.requires.seats k d lt, c.requires.maker), (let a = row-send in let b = row-sync in let d = entry-send in let e = entry-sync in search (sendable, crosses, seat-send) depth 30))

pub returns-clause-each : goal.returns-clause-each
returns-clause-each g c = IfOk-weaker c.side_by_side.result _ _ (λ v h k d lt. (h k d lt).2) c.side_by_side.ensures.each
