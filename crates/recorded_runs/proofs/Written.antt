-- What is promised of a run of accepted inputs, whose plan was made and written, in part or in whole.
use Rattle.std.proofs.Common.{◌≡◌, ◌⊎◌, inl, inr, ℕ, Result, Ok, Err, refl}
use Rattle.std.specs.Prelude.{OnOk, OnErr, IsErrOf}
use Rattle.rho_outside.specs.Causes.{Rose}
use Rattle.rho_outside.specs.Kept.{with_files}
use Rattle.rho_outside.specs.Put.{GrewBy}
use Rattle.command_words.specs.Commands.{RunRequest}
use Rattle.run_inputs.specs.Given.{task_of, AreAccepted, AreReplayAccepted}
use Rattle.run_inputs.specs.Inputs.{accepted}
use Rattle.run_inputs.specs.declared.acceptance.Inputs.{Inputs}
use Rattle.run_inputs.specs.declared.acceptance.ReplayInputs.{ReplayInputs}
use Rattle.run_reports.specs.Stops.{StopsOnTheWay}
use Rattle.run_reports.specs.World.{World}
use Rattle.run_status.specs.Endings.{status_of}
use Rattle.run_reports.specs.declared.finish.Halt.{Halt}
use Rattle.run_reports.specs.declared.finish.Halt.TheVariants as halt
use Rattle.run_status.specs.declared.status.Status.{Status}
use Rattle.run_status.specs.declared.status.Status.TheVariants as status
use Rattle.replays.specs.declared.verdict.Verdict.{Verdict}
use Rattle.recorded_runs.specs.Accepted.{HasDeployed, HasReplayed}
use Rattle.recorded_runs.specs.Deploys.{IsDeploy}
use Rattle.recorded_runs.specs.Ends.{LeavesAll, LeavesInPart, LeavesSome}
use Rattle.recorded_runs.specs.Plan.{IsPlan, planned}
use Rattle.recorded_runs.specs.ReplayPlans.{IsReplayPlan, IsReplayStop, planned_replay}
use Rattle.recorded_runs.specs.Replays.{IsReplay}
use Rattle.recorded_runs.specs.Written.{status_after}
use Rattle.recorded_runs.specs.declared.deploys.Plan.{Plan}
use Rattle.recorded_runs.specs.declared.replaying.ReplayPlan.{ReplayPlan}
use Rattle.recorded_runs.proofs.Endings.{verdict_deployed, verdict_replayed}
use Rattle.recorded_runs.proofs.Ending.{accepted_in}
use Rattle.recorded_runs.proofs.Leaving.{ok_and, leaves_all, leaves_some}
use Rattle.recorded_runs.proofs.DeployPromises.{is_deploy, left_deploy}
use Rattle.recorded_runs.proofs.ReplayEnding.{settled_stop, settled_halt, settled_end, replay_leaves, replay_leaves_some}
use Rattle.recorded_runs.proofs.ReplayPromises.{is_replay, left_replay}

-- a deploy whose plan was written ended, or a write failed, or memory is wanted
pub written_deployed : (v : Verdict) (written : Result (Unit {0}) Halt) → HasDeployed (status_after v written)
written_deployed v (Ok done) = verdict_deployed v
written_deployed v (Err halt.WriteFault) = tt
written_deployed v (Err halt.NoMemory) = tt

-- so did a replay
pub written_replayed : (v : Verdict) (written : Result (Unit {0}) Halt) → HasReplayed (status_after v written)
written_replayed v (Ok done) = verdict_replayed v
written_replayed v (Err halt.WriteFault) = tt
written_replayed v (Err halt.NoMemory) = tt

module _ (names : RunRequest) (limit : ℕ) (a : World) (i : Inputs) (given : AreAccepted a.files names limit i) where
  -- a deploy that wants memory before anything was kept or put
  pub wanting_deploy : IsDeploy names limit a a status.NoMemory
  wanting_deploy = is_deploy names limit a a status.NoMemory tt tt (λ e. cc) tt (λ files h. inl (refl, refl))

  module _ (p : Plan) (plan : IsPlan limit (task_of i) p) (b : World) where
    -- what was written in part is a part of what a deploy leaves
    leaves-in-part : StopsOnTheWay (planned names p) p.bytes.items a b → LeavesInPart names limit a b
    leaves-in-part part files h =
        inr (ok_and (LeavesSome names limit a b) (accepted names limit files) (task_of i) (given.accepted files h) (leaves_some names limit (task_of i) p a b plan part))

    -- a deploy whose plan was written, or in part
    pub written_deploy : (written : Result (Unit {0}) Halt) → OnOk written (b.files ≡ with_files (planned names p) a.files) → OnOk written (GrewBy p.bytes.items a.bytes b.bytes)
        → OnErr written (StopsOnTheWay (planned names p) p.bytes.items a b) → (IsErrOf written halt.WriteFault → Rose a.keeps b.keeps ⊎ Rose a.puts b.puts)
        → IsDeploy names limit a b (status_after p.verdict written)
    written_deploy (Ok done) kept put part cause = left_deploy names limit a b (accepted_in a.files names limit i given) p.verdict
        (λ files h. ok_and (LeavesAll (status_of p.verdict) names limit a b) (accepted names limit files) (task_of i) (given.accepted files h)
        (leaves_all (status_of p.verdict) names limit (task_of i) p a b plan refl kept put))
    written_deploy (Err halt.WriteFault) kept put part cause =
        is_deploy names limit a b status.WriteFault (accepted_in a.files names limit i given) tt (λ e. cause refl) tt (leaves-in-part part)
    written_deploy (Err halt.NoMemory) kept put part cause = is_deploy names limit a b status.NoMemory tt tt (λ e. cc) tt (leaves-in-part part)

module _ (names : RunRequest) (a : World) (r : ReplayInputs) (given : AreReplayAccepted a.files names r) where
  -- a replay whose log is refused, or that wants memory, before anything was kept or put
  pub stopped_replay : (s : Status) → IsReplayStop r.inputs.base.checkpoint r s → IsReplay names a a s
  stopped_replay (status.Replay f) h = is_replay names a a (status.Replay f) (settled_stop a names r given f h) (refl, refl) (λ e. cc) tt tt
  stopped_replay status.NoMemory h = is_replay names a a status.NoMemory tt tt (λ e. cc) tt (λ files e. inl (refl, refl))
  stopped_replay s h = absurd h

  -- it ended, as its log is no run
  pub stopped_replayed : (s : Status) → IsReplayStop r.inputs.base.checkpoint r s → HasReplayed s
  stopped_replayed (status.Replay f) h = tt
  stopped_replayed status.NoMemory h = tt
  stopped_replayed s h = absurd h

  module _ (p : ReplayPlan) (plan : IsReplayPlan r.inputs.base.checkpoint r p) (b : World) where
    -- a replay whose plan was written, or in part
    pub written_replay : (written : Result (Unit {0}) Halt) → OnOk written (b.files ≡ with_files (planned_replay names p) a.files) → OnOk written (GrewBy p.bytes.items a.bytes b.bytes)
        → OnErr written (StopsOnTheWay (planned_replay names p) p.bytes.items a b) → (IsErrOf written halt.WriteFault → Rose a.keeps b.keeps ⊎ Rose a.puts b.puts)
        → IsReplay names a b (status_after p.verdict written)
    written_replay (Ok done) kept put part cause = left_replay names a b p.verdict (settled_end a names r given p plan) (replay_leaves a names r given p plan b kept put)
    written_replay (Err halt.WriteFault) kept put part cause =
        is_replay names a b status.WriteFault (settled_halt a names r given p plan) tt (λ e. cause refl) tt (replay_leaves_some a names r given p plan b part)
    written_replay (Err halt.NoMemory) kept put part cause = is_replay names a b status.NoMemory tt tt (λ e. cc) tt (replay_leaves_some a names r given p plan b part)
