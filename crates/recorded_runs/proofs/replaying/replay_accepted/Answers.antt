use Rattle.std.proofs.Common.{◌≡◌, ◌∷◌, [], List, ℕ, sym, ap, ap₂, subst}
use Rattle.std.specs.Prelude.{OnOk, OnErr}
use Rattle.command_words.specs.Answers.{run_of}
use Rattle.rho_outside.specs.Kept.{with_files}
use Rattle.rho_outside.specs.Put.{GrewBy}
use Rattle.run_reports.specs.Stops.{StopsOnTheWay}
use Rattle.run_reports.specs.World.{World, world}
use Rattle.run_status.specs.declared.status.Status.{Status}
use Rattle.recorded_runs.specs.Accepted.{HasReplayed}
use Rattle.recorded_runs.specs.ReplayPlans.{planned_replay}
use Rattle.recorded_runs.specs.Replays.{IsReplay}
use Rattle.recorded_runs.proofs.Written.{stopped_replay, stopped_replayed, written_replay, written_replayed}
use Rattle.recorded_runs.proofs.replaying.replay_accepted.Goals as goal

pub returns-in-Ok-clause-ended : goal.returns-in-Ok-clause-ended
returns-in-Ok-clause-ended g c = subst HasReplayed (sym c.status_after.ensures) (written_replayed c.in-Ok.plan.verdict c.keep_and_put-written.result)

pub returns-in-Ok-clause-replay : goal.returns-in-Ok-clause-replay
returns-in-Ok-clause-replay g c =
    let names = run_of c.args.run.now in
    let plan = c.in-Ok.plan in
    let a : World = world (g.S.Shelf.files c.args.shelf.now) (g.S.Shelf.fetch_faults c.args.shelf.now) (g.S.Shelf.keep_faults c.args.shelf.now) (g.O.Sink.written c.args.out.now) (g.O.Sink.faults c.args.out.now) in
    let b : World = world (g.S.Shelf.files c.keep_and_put-written.new.shelf) (g.S.Shelf.fetch_faults c.keep_and_put-written.new.shelf) (g.S.Shelf.keep_faults c.keep_and_put-written.new.shelf) (g.O.Sink.written c.keep_and_put-written.new.out) (g.O.Sink.faults c.keep_and_put-written.new.out) in
    let w = c.keep_and_put-written.ensures in
    let written = c.keep_and_put-written.result in
    let entry : List ℕ → List ℕ → List ℕ × List ℕ = λ name bytes. (name, bytes) in
    let entries : _ ≡ planned_replay names plan = ap (λ (x : List ℕ × List ℕ). x ∷ []) (ap₂ entry c.as_str-name.ensures.value c.as_slice-next.ensures.value) in
    let bytes = c.as_slice-bytes.ensures.value in
    let kept = subst (λ (es : List (List ℕ × List ℕ)). OnOk written (b.files ≡ with_files es a.files)) entries w.kept in
    let put = subst (λ (l : List ℕ). OnOk written (GrewBy l a.bytes b.bytes)) bytes w.put in
    let part = subst (λ (l : List ℕ). OnErr written (StopsOnTheWay (planned_replay names plan) l a b)) bytes (subst (λ (es : List (List ℕ × List ℕ)). OnErr written (StopsOnTheWay es c.as_slice-bytes.result.now a b)) entries w.part) in
    subst (λ (s : Status). IsReplay names a b s) (sym c.status_after.ensures)
    (written_replay names a c.args.inputs c.requires.inputs plan c.in-Ok.ensures.plan b written kept put part w.cause)

pub returns-in-Err-clause-ended : goal.returns-in-Err-clause-ended
returns-in-Err-clause-ended g c =
    let a : World = world (g.S.Shelf.files c.args.shelf.now) (g.S.Shelf.fetch_faults c.args.shelf.now) (g.S.Shelf.keep_faults c.args.shelf.now) (g.O.Sink.written c.args.out.now) (g.O.Sink.faults c.args.out.now) in
    stopped_replayed (run_of c.args.run.now) a c.args.inputs c.requires.inputs c.in-Err.status c.in-Err.ensures.stop

pub returns-in-Err-clause-replay : goal.returns-in-Err-clause-replay
returns-in-Err-clause-replay g c =
    let a : World = world (g.S.Shelf.files c.args.shelf.now) (g.S.Shelf.fetch_faults c.args.shelf.now) (g.S.Shelf.keep_faults c.args.shelf.now) (g.O.Sink.written c.args.out.now) (g.O.Sink.faults c.args.out.now) in
    stopped_replay (run_of c.args.run.now) a c.args.inputs c.requires.inputs c.in-Err.status c.in-Err.ensures.stop
