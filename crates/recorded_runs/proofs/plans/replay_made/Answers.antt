use Rattle.std.proofs.Common.{◌≡◌, sym, subst}
use Rattle.std.proofs.lemmas.Result.{IfErr-weaker, IfOk-weaker}
use Rattle.recorded_runs.proofs.Answering.{left_by_replay}
use Rattle.run_status.specs.declared.status.Status.{Status}
use Rattle.run_status.specs.declared.status.Status.TheVariants.{NoMemory}
use Rattle.run_status.proofs.Handing.{handed}
use Rattle.recorded_runs.specs.Made.{made_task}
use Rattle.recorded_runs.specs.WorkloadPlan.{IsStop}
use Rattle.recorded_runs.proofs.WorkloadEnding.{stops}
use Rattle.recorded_runs.proofs.plans.replay_made.Goals as goal

-- want of memory is always a stop
pub returns-in_err-inputs-clause-stop : goal.returns-in_err-inputs-clause-stop
returns-in_err-inputs-clause-stop g c =
    handed (λ (x : Status). x ≡ NoMemory) (IsStop (made_task c.args.steps, c.args.text.now)) c.from_residual.result c.from_residual.ensures.1 (λ s k. subst (λ (x : Status). IsStop (made_task c.args.steps, c.args.text.now) x) (sym k) tt)

pub returns-clause-plan : goal.returns-clause-plan
returns-clause-plan g c =
    let r = c.in_ok-inputs.inputs in
    let m = c.in_ok-inputs.ensures in
    IfOk-weaker c.make_replay_plan.result _ _ (λ p plan. record {
      left = plan.left;
      replay = left_by_replay r.inputs.base.checkpoint r (made_task c.args.steps, c.args.text.now) m.given m.base m.term p plan;
      line = plan.line;
      verdict = plan.verdict;
    }) c.make_replay_plan.ensures.plan

pub returns-clause-stop : goal.returns-clause-stop
returns-clause-stop g c =
    let r = c.in_ok-inputs.inputs in
    let m = c.in_ok-inputs.ensures in
    IfErr-weaker c.make_replay_plan.result _ _ (λ s stop. stops r.inputs.base.checkpoint r (made_task c.args.steps, c.args.text.now) m.given m.base m.term s stop) c.make_replay_plan.ensures.stop
