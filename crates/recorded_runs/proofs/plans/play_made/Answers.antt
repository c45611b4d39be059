use Rattle.std.proofs.Common.{◌≤◌, ap, sym, subst, arith}
use Rattle.std.proofs.lemmas.Result.{IfOk-weaker}
use Rattle.calculus.specs.Limits.{most_limit}
use Rattle.calculus.specs.Outcome.{Prices}
use Rattle.run_inputs.specs.Inputs.{Task}
use Rattle.recorded_runs.specs.Made.{made_limit}
use Rattle.recorded_runs.proofs.Playing.{played}
use Rattle.recorded_runs.proofs.plans.play_made.Goals as goal

pub make_plan-requires-clause-limit : goal.make_plan-requires-clause-limit
make_plan-requires-clause-limit g c κs ls = subst (λ (p : Prices). made_limit ≤ most_limit p) (sym (ap (λ (t : Task). t.prices) c.in_ok-inputs.ensures.task)) (omega arith)

pub returns : goal.returns
returns g c =
    let i = c.in_ok-inputs.ensures in
    IfOk-weaker c.make_plan.result _ _ (λ p plan. played c.args.steps c.in_ok-inputs.inputs p i.task i.rows i.base plan) c.make_plan.ensures
