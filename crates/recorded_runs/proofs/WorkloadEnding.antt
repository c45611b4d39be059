-- How a workload ends.
use Rattle.std.proofs.Common.{◌≡◌, ◌⊎◌, inl, inr, ℕ, List, [], refl}
use Rattle.calculus.specs.Rows.{Row}
use Rattle.run_inputs.specs.Bases.{IsStateOf}
use Rattle.run_inputs.specs.Given.{IsGiven}
use Rattle.run_inputs.specs.Inputs.{Task}
use Rattle.run_inputs.specs.declared.acceptance.ReplayInputs.{ReplayInputs}
use Rattle.recorded_runs.specs.ReplayPlans.{IsReplayStop}
use Rattle.recorded_runs.proofs.Answering.{settled_refusal}
use Rattle.run_status.specs.declared.status.Status.{Status}
use Rattle.run_status.specs.declared.status.Status.TheVariants as status
use Rattle.sources.specs.Sources.{IsSourceOf}
use Rattle.recorded_runs.specs.Runs.{IsLeftBySource, Left}
use Rattle.recorded_runs.specs.Made.{made_limit, made_replay, made_task}
use Rattle.recorded_runs.specs.WorkloadPlan.{IsStop}
use Rattle.recorded_runs.specs.Workloads.{EndsOrRefuses, RefusedFor, WorkloadEnds}
use Rattle.recorded_runs.proofs.Agreeing.{is_refused}

-- a replay that is refused, of the log that it was given
pub stops : (rows : List Row) (r : ReplayInputs) (inputs : Task × List ℕ) → IsGiven r inputs → IsStateOf r.inputs.base.text.items rows → IsSourceOf r.inputs.source.items r.inputs.term
    → (s : Status) → IsReplayStop rows r s → IsStop inputs s
stops rows r inputs i state spelt (status.Replay f) h = settled_refusal rows r inputs i state spelt f h
stops rows r inputs i state spelt status.NoMemory h = tt
stops rows r inputs i state spelt s h = absurd h

module _ (steps : ℕ) where
  -- and of the log of a play
  pub stop_refuses : (p : Left) → IsLeftBySource [] (made_task steps) made_limit p → (s : Status) → IsStop (made_replay steps p.steps) s → RefusedFor steps s
  stop_refuses p play (status.Replay f) h = is_refused steps p play f h
  stop_refuses p play status.NoMemory h = tt
  stop_refuses p play s h = absurd h

  -- where nothing failed it ended with a verdict or for want of memory, or the log is refused
  pub has_ended : (s : Status) (A B : Type 0) → WorkloadEnds steps s → (s ≡ status.WriteFault → A ⊎ B) → ¬ A → ¬ B → EndsOrRefuses s
  has_ended status.Done A B h w a b = tt
  has_ended status.Exhausted A B h w a b = tt
  has_ended status.Faulted A B h w a b = tt
  has_ended status.NoMemory A B h w a b = tt
  has_ended (status.Replay f) A B h w a b = tt
  has_ended status.WriteFault A B h w a b = absurd (neither (w refl))
    where
      neither : A ⊎ B → ⊥
      neither (inl x) = a x
      neither (inr y) = b y
  has_ended s A B h w a b = absurd h
