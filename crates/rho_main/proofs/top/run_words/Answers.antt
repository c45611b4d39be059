use Rattle.std.proofs.Common.{map, string_bytes}
use Rattle.command_words.specs.Answers.{answer_of, run_of, workload_of}
use Rattle.run_reports.specs.World.{world}
use Rattle.rho_main.proofs.Calls.{deploy_went_on, replay_went_on, workload_went_on}
use Rattle.rho_main.proofs.top.run_words.Goals as goal

pub returns-in-Deploy : goal.returns-in-Deploy
returns-in-Deploy g c =
    let a = world (g.S.Shelf.files c.args.shelf.now) (g.S.Shelf.fetch_faults c.args.shelf.now) (g.S.Shelf.keep_faults c.args.shelf.now) (g.O.Sink.written c.args.out.now) (g.O.Sink.faults c.args.out.now) in
    let m = world (g.S.Shelf.files c.accept.new.shelf) (g.S.Shelf.fetch_faults c.accept.new.shelf) (g.S.Shelf.keep_faults c.accept.new.shelf) (g.O.Sink.written c.accept.new.out) (g.O.Sink.faults c.accept.new.out) in
    let x = c.in-Deploy.ensures.accepted in
    deploy_went_on a m _ c.deploy_accepted.result (answer_of (map string_bytes c.args.words.now)) (run_of c.in-Deploy.run') c.in-Deploy.limit x.ready.0 x.fetched c.deploy_accepted.ensures.deploy

pub returns-in-Replay : goal.returns-in-Replay
returns-in-Replay g c =
    let a = world (g.S.Shelf.files c.args.shelf.now) (g.S.Shelf.fetch_faults c.args.shelf.now) (g.S.Shelf.keep_faults c.args.shelf.now) (g.O.Sink.written c.args.out.now) (g.O.Sink.faults c.args.out.now) in
    let m = world (g.S.Shelf.files c.accept.new.shelf) (g.S.Shelf.fetch_faults c.accept.new.shelf) (g.S.Shelf.keep_faults c.accept.new.shelf) (g.O.Sink.written c.accept.new.out) (g.O.Sink.faults c.accept.new.out) in
    let x = c.in-Replay.ensures.accepted in
    replay_went_on a m _ c.replay_accepted.result (answer_of (map string_bytes c.args.words.now)) (run_of c.in-Replay.run') x.ready.0 x.fetched c.replay_accepted.ensures.replay

pub returns-in-Workload : goal.returns-in-Workload
returns-in-Workload g c =
    let a = world (g.S.Shelf.files c.args.shelf.now) (g.S.Shelf.fetch_faults c.args.shelf.now) (g.S.Shelf.keep_faults c.args.shelf.now) (g.O.Sink.written c.args.out.now) (g.O.Sink.faults c.args.out.now) in
    let m = world (g.S.Shelf.files c.accept.new.shelf) (g.S.Shelf.fetch_faults c.accept.new.shelf) (g.S.Shelf.keep_faults c.accept.new.shelf) (g.O.Sink.written c.accept.new.out) (g.O.Sink.faults c.accept.new.out) in
    let x = c.in-Workload.ensures.accepted in
    workload_went_on a m _ c.workload.result (answer_of (map string_bytes c.args.words.now)) (workload_of c.in-Workload.request) x.ready x.fetched c.workload.ensures
