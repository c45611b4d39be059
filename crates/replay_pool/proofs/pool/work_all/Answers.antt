use denote.Exit.{no}
use denote.Param.{param}
use denote.Param.Send.{arg_send, arg_sync, copied_sync, param_send, sendable}
use Rattle.std.proofs.Crossing.{crosses, sync}
use Rattle.std.proofs.lemmas.Result.{IfOk-weaker}
use Rattle.numbered_jobs.proofs.Sharing.{five-shared}
use Rattle.replay_hub.specs.contracts.scene.ReplaySceneScene.TheImpl as Impl
use Rattle.replay_pool.proofs.Crossing.{seat-crosses, hub-shared}
use Rattle.replay_pool.proofs.pool.work_all.Goals as goal

pub side_by_side-requires-send-T : goal.side_by_side-requires-send-T
side_by_side-requires-send-T g c κs within =
    let b = c.type_bounds in
    param_send _ _ (arg_send _ no _ (seat-crosses (param 0 g.row.J) _ _ _ (param 6 g.row.J-Held) b.send-J-Row b.send-J-Channel b.send-J-Shard))

pub side_by_side-requires-sync-F : goal.side_by_side-requires-sync-F
side_by_side-requires-sync-F g c κs within =
    let b = c.type_bounds in
    let terms = param 0 g.row.J in let row = param 3 g.row.J-Row in let channel = param 4 g.row.J-Channel in
    let shard = param 5 g.row.J-Shard in let held = param 6 g.row.J-Held in
    let ghosts = Impl.ghosts terms row channel shard held g.J.ReplayTerms Impl.no_dict Impl.no_dict Impl.no_dict Impl.no_dict Impl.no_dict in
    let hub = hub-shared terms row channel shard held b.send-J-Row b.send-J-Channel b.send-J-Shard ghosts b.sync-J in
    copied_sync _ _ (arg_sync _ no _ (five-shared _ _ _ _ _ _ _ _ _ _ _ _ _ _ _ _ b.sync-R sync b.sync-G b.sync-J hub))

pub side_by_side-requires-clause-accepts : goal.side_by_side-requires-clause-accepts
side_by_side-requires-clause-accepts g c κs within = λ number k d lt. ((c.requires.knows, c.requires.seats k d lt), (search (sendable, crosses) depth 30))

pub returns-clause-each : goal.returns-clause-each
returns-clause-each g c = IfOk-weaker c.side_by_side.result _ _ (λ v h k d lt. (h k d lt).2) c.side_by_side.ensures.each
