use Rattle.std.proofs.Common.{◌≡◌, ◌∙◌, List, ℕ, ap, sym, subst}
use Rattle.recorded_runs.specs.Replaying.{IsLeftByReplay}
use Rattle.run_status.specs.declared.status.Status.{Status}
use Rattle.run_status.specs.declared.status.Status.TheVariants.{NoMemory}
use Rattle.run_status.proofs.Handing.{handed}
use Rattle.recorded_runs.specs.Made.{made_log, made_task}
use Rattle.recorded_runs.specs.WorkloadPlan.{IsStop}
use Rattle.recorded_runs.specs.Workloads.{RefusedFor}
use Rattle.recorded_runs.proofs.Agreeing.{is_left, is_read, same}
use Rattle.recorded_runs.proofs.WorkloadEnding.{stop_refuses}
use Rattle.recorded_runs.proofs.plans.make_work.Goals as goal

-- want of memory is always a cause
pub returns-in_err-log-clause-stop : goal.returns-in_err-log-clause-stop
returns-in_err-log-clause-stop g c = handed (λ (x : Status). x ≡ NoMemory) (RefusedFor c.args.steps) c.from_residual.result c.from_residual.ensures.1 (λ s k. subst (λ (x : Status). RefusedFor c.args.steps x) (sym k) tt)

pub replay_made-requires-clause-log : goal.replay_made-requires-clause-log
replay_made-requires-clause-log g c κs ls =
    let p = c.in_ok-log.ensures in
    is_read c.args.steps p.left p.play c.as_slice.result.now (c.as_slice.ensures.value ∙ p.text)

pub returns-clause-work : goal.returns-clause-work
returns-clause-work g c =
    let steps = c.args.steps in
    let p = c.in_ok-log.ensures in
    let r = c.in_ok-line.ensures.plan in
    let text : c.as_slice.result.now ≡ made_log steps p.left.steps = c.as_slice.ensures.value ∙ p.text in
    let replay = subst (λ (x : List ℕ). IsLeftByReplay (made_task steps, x) r.left) text r.replay in
    record {
      left = r.left;
      is = is_left steps p.left p.play r.left replay;
      log = p.text ∙ ap (made_log steps) (sym (same steps p.left p.play r.left replay));
      line = r.line;
      verdict = r.verdict;
    }

pub returns-in_err-line-clause-stop : goal.returns-in_err-line-clause-stop
returns-in_err-line-clause-stop g c =
    let steps = c.args.steps in
    let p = c.in_ok-log.ensures in
    let status = c.in_err-line.field-0.0 in
    let stop : RefusedFor steps status =
    stop_refuses steps p.left p.play status (subst (λ (x : List ℕ). IsStop (made_task steps, x) status) (c.as_slice.ensures.value ∙ p.text) c.in_err-line.ensures.stop) in
    handed (λ (x : Status). x ≡ c.in_err-line.field-0.0) (RefusedFor steps) c.from_residual-in_err-line.result c.from_residual-in_err-line.ensures.1 (λ s k. subst (λ (x : Status). RefusedFor steps x) (sym k) stop)
