use Rattle.std.proofs.Common.{◌≡◌, ◌∷◌, [], List, ℕ, sym, ap₂, subst}
use Rattle.std.specs.Prelude.{OnOk, OnErr}
use Rattle.command_words.specs.Answers.{run_of}
use Rattle.rho_outside.specs.Kept.{with_files}
use Rattle.rho_outside.specs.Put.{GrewBy}
use Rattle.run_reports.specs.Stops.{StopsOnTheWay}
use Rattle.run_reports.specs.World.{World, world}
use Rattle.run_status.specs.declared.status.Status.{Status}
use Rattle.recorded_runs.specs.Accepted.{HasDeployed}
use Rattle.recorded_runs.specs.Deploys.{IsDeploy}
use Rattle.recorded_runs.specs.Plan.{planned}
use Rattle.recorded_runs.proofs.Written.{wanting_deploy, written_deploy, written_deployed}
use Rattle.recorded_runs.proofs.deploys.deploy_accepted.Goals as goal

pub returns-in-Ok-clause-ended : goal.returns-in-Ok-clause-ended
returns-in-Ok-clause-ended g c = subst HasDeployed (sym c.status_after.ensures) (written_deployed c.in-Ok.plan.verdict c.keep_both_and_put-written.result)

pub returns-in-Ok-clause-deploy : goal.returns-in-Ok-clause-deploy
returns-in-Ok-clause-deploy g c =
    let names = run_of c.args.run.now in
    let limit = c.args.limit in
    let plan = c.in-Ok.plan in
    let a : World = world (g.S.Shelf.files c.args.shelf.now) (g.S.Shelf.fetch_faults c.args.shelf.now) (g.S.Shelf.keep_faults c.args.shelf.now) (g.O.Sink.written c.args.out.now) (g.O.Sink.faults c.args.out.now) in
    let b : World = world (g.S.Shelf.files c.keep_both_and_put-written.new.shelf) (g.S.Shelf.fetch_faults c.keep_both_and_put-written.new.shelf) (g.S.Shelf.keep_faults c.keep_both_and_put-written.new.shelf) (g.O.Sink.written c.keep_both_and_put-written.new.out) (g.O.Sink.faults c.keep_both_and_put-written.new.out) in
    let w = c.keep_both_and_put-written.ensures in
    let written = c.keep_both_and_put-written.result in
    let entry : List ℕ → List ℕ → List ℕ × List ℕ = λ name bytes. (name, bytes) in
    let first = ap₂ entry c.as_str-log_name.ensures.value c.as_slice-log.ensures.value in
    let second = ap₂ entry c.as_str-next_name.ensures.value c.as_slice-next.ensures.value in
    let entries : _ ≡ planned names plan = ap₂ (λ (x y : List ℕ × List ℕ). x ∷ y ∷ []) first second in
    let bytes = c.as_slice-bytes.ensures.value in
    let kept = subst (λ (es : List (List ℕ × List ℕ)). OnOk written (b.files ≡ with_files es a.files)) entries w.kept in
    let put = subst (λ (l : List ℕ). OnOk written (GrewBy l a.bytes b.bytes)) bytes w.put in
    let part = subst (λ (l : List ℕ). OnErr written (StopsOnTheWay (planned names plan) l a b)) bytes (subst (λ (es : List (List ℕ × List ℕ)). OnErr written (StopsOnTheWay es c.as_slice-bytes.result.now a b)) entries w.part) in
    subst (λ (s : Status). IsDeploy names limit a b s) (sym c.status_after.ensures)
    (written_deploy names limit a c.args.inputs c.requires.inputs plan c.in-Ok.ensures b written kept put part w.cause)

pub returns-in-Err-clause-deploy : goal.returns-in-Err-clause-deploy
returns-in-Err-clause-deploy g c =
    let a : World = world (g.S.Shelf.files c.args.shelf.now) (g.S.Shelf.fetch_faults c.args.shelf.now) (g.S.Shelf.keep_faults c.args.shelf.now) (g.O.Sink.written c.args.out.now) (g.O.Sink.faults c.args.out.now) in
    wanting_deploy (run_of c.args.run.now) c.args.limit a c.args.inputs c.requires.inputs
