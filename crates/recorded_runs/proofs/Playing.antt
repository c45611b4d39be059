-- What the play of the made input left, by its plan.
use Rattle.std.proofs.Common.{◌≡◌, ◌∙◌, ℕ, List, [], ap, subst}
use Rattle.calculus.specs.Log.{log_text}
use Rattle.calculus.specs.Rows.{Row}
use Rattle.run_inputs.proofs.OneState.{one_state}
use Rattle.recorded_runs.specs.Plan.{IsPlan}
use Rattle.recorded_runs.specs.Runs.{header_of, IsLeftBySource}
use Rattle.recorded_runs.specs.declared.deploys.Plan.{Plan}
use Rattle.run_inputs.specs.Given.{task_of, IsBase}
use Rattle.run_inputs.specs.Inputs.{Task}
use Rattle.run_inputs.specs.declared.acceptance.Inputs.{Inputs}
use Rattle.recorded_runs.specs.Made.{made_limit, made_task}
use Rattle.recorded_runs.specs.WorkloadPlan.{IsPlayed}

-- a plan of a run of these inputs is one of the made input
pub played : (steps : ℕ) (i : Inputs) (p : Plan) → task_of i ≡ made_task steps → i.base.checkpoint ≡ [] → IsBase i.base → IsPlan made_limit (task_of i) p → IsPlayed steps p.log.items
played steps i p task rows base plan =
    let none : plan.rows ≡ [] = one_state i.base.text.items plan.rows i.base.checkpoint plan.run.state base ∙ rows in
    let P = λ (rs : List Row) (t : Task). IsLeftBySource rs t made_limit plan.left in
    record {
      left = plan.left;
      play = subst (P []) task (subst (λ (rs : List Row). P rs (task_of i)) none plan.run);
      text = plan.log ∙ (ap (λ (rs : List Row). log_text (header_of rs (task_of i) made_limit) plan.left.steps) none ∙ ap (λ (t : Task). log_text (header_of [] t made_limit) plan.left.steps) task);
    }
