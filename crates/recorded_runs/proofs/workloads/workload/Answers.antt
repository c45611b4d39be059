use Rattle.std.proofs.Common.{◌≡◌, ◌∷◌, [], List, ℕ, string_bytes, sym, ap, ap₂, subst}
use Rattle.std.specs.Prelude.{OnOk, OnErr}
use Rattle.rho_outside.specs.Kept.{with_files}
use Rattle.rho_outside.specs.Put.{GrewBy}
use Rattle.run_reports.specs.Stops.{StopsOnTheWay}
use Rattle.run_reports.specs.World.{World, world}
use Rattle.run_status.specs.declared.status.Status.{Status}
use Rattle.recorded_runs.specs.Workloads.{IsWorkload}
use Rattle.recorded_runs.proofs.WorkloadPromises.{stopped_work, written_work}
use Rattle.recorded_runs.proofs.workloads.workload.Goals as goal

pub returns-in-Ok : goal.returns-in-Ok
returns-in-Ok g c =
    let steps = c.args.asked.now.steps in
    let log = string_bytes c.args.asked.now.log in
    let work = c.in-Ok.work in
    let a : World = world (g.S.Shelf.files c.args.shelf.now) (g.S.Shelf.fetch_faults c.args.shelf.now) (g.S.Shelf.keep_faults c.args.shelf.now) (g.O.Sink.written c.args.out.now) (g.O.Sink.faults c.args.out.now) in
    let b : World = world (g.S.Shelf.files c.keep_and_put-written.new.shelf) (g.S.Shelf.fetch_faults c.keep_and_put-written.new.shelf) (g.S.Shelf.keep_faults c.keep_and_put-written.new.shelf) (g.O.Sink.written c.keep_and_put-written.new.out) (g.O.Sink.faults c.keep_and_put-written.new.out) in
    let w = c.keep_and_put-written.ensures in
    let written = c.keep_and_put-written.result in
    let entry : List ℕ → List ℕ → List ℕ × List ℕ = λ name bytes. (name, bytes) in
    let entries : _ ≡ ((log, work.log.items) ∷ []) = ap (λ (x : List ℕ × List ℕ). x ∷ []) (ap₂ entry c.as_str-name.ensures.value c.as_slice-log.ensures.value) in
    let bytes = c.as_slice-line.ensures.value in
    let kept = subst (λ (es : List (List ℕ × List ℕ)). OnOk written (b.files ≡ with_files es a.files)) entries w.kept in
    let put = subst (λ (l : List ℕ). OnOk written (GrewBy l a.bytes b.bytes)) bytes w.put in
    let part = subst (λ (l : List ℕ). OnErr written (StopsOnTheWay ((log, work.log.items) ∷ []) l a b)) bytes (subst (λ (es : List (List ℕ × List ℕ)). OnErr written (StopsOnTheWay es c.as_slice-line.result.now a b)) entries w.part) in
    subst (λ (s : Status). IsWorkload steps log a b s) (sym c.status_after.ensures)
    (written_work steps log a b w.fetch_faults work c.in-Ok.ensures.work written kept put part w.cause)

pub returns-in-Err : goal.returns-in-Err
returns-in-Err g c =
    let a : World = world (g.S.Shelf.files c.args.shelf.now) (g.S.Shelf.fetch_faults c.args.shelf.now) (g.S.Shelf.keep_faults c.args.shelf.now) (g.O.Sink.written c.args.out.now) (g.O.Sink.faults c.args.out.now) in
    stopped_work c.args.asked.now.steps (string_bytes c.args.asked.now.log) a c.in-Err.status c.in-Err.ensures.stop
