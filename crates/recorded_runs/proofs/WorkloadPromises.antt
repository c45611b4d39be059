-- What is promised of a workload, from how it ended.
use Rattle.std.proofs.Common.{◌≡◌, ◌⊎◌, inl, ℕ, List, [], ◌∷◌, Result, Ok, Err, refl}
use Rattle.std.specs.Prelude.{OnOk, OnErr, IsErrOf}
use Rattle.rho_outside.specs.Causes.{Rose}
use Rattle.rho_outside.specs.Kept.{with_files}
use Rattle.rho_outside.specs.Put.{GrewBy}
use Rattle.run_reports.specs.Stops.{StopsOnTheWay}
use Rattle.run_reports.specs.World.{World}
use Rattle.run_status.specs.Endings.{OnRefusal, OnHalt, OnVerdict, status_of}
use Rattle.run_reports.specs.declared.finish.Halt.{Halt}
use Rattle.run_reports.specs.declared.finish.Halt.TheVariants as halt
use Rattle.run_status.specs.declared.status.Status.{Status}
use Rattle.run_status.specs.declared.status.Status.TheVariants as status
use Rattle.replays.specs.declared.verdict.Verdict.{Verdict}
use Rattle.replays.specs.declared.verdict.Verdict.TheVariants as ending
use Rattle.recorded_runs.specs.Left.{LeavesAll, LeavesInPart}
use Rattle.recorded_runs.specs.WorkloadPlan.{IsWork}
use Rattle.recorded_runs.specs.Workloads.{IsWorkload, RefusedFor, WorkloadEnds}
use Rattle.recorded_runs.specs.Written.{status_after}
use Rattle.recorded_runs.specs.declared.plans.Work.{Work}
use Rattle.recorded_runs.proofs.WorkloadEnding.{has_ended}
use Rattle.recorded_runs.proofs.WorkloadLeaving.{leaves_all, leaves_part}

module _ (steps : ℕ) (log : List ℕ) where
  -- the end of a workload, from fewer clauses
  is_workload : (a b : World) (s : Status) → WorkloadEnds steps s → b.fetches ≡ a.fetches → OnRefusal s ((b.files ≡ a.files) × (b.bytes ≡ a.bytes))
      → (s ≡ status.WriteFault → Rose a.keeps b.keeps ⊎ Rose a.puts b.puts) → OnVerdict s (LeavesAll steps log a b s) → OnHalt s (LeavesInPart steps log a b)
      → IsWorkload steps log a b s
  is_workload a b s ends fetches stays write_fault verdict part = record {
    ends = ends;
    complete = λ k o. has_ended steps s _ _ ends write_fault k o;
    fetches = fetches;
    stays = stays;
    write_fault = write_fault;
    verdict = verdict;
    part = part;
  }

  -- a workload of whose play the log is refused, or that wants memory, before anything was kept or put
  pub stopped_work : (a : World) (s : Status) → RefusedFor steps s → IsWorkload steps log a a s
  stopped_work a (status.Replay f) h = is_workload a a (status.Replay f) h refl (refl, refl) (λ e. cc) tt tt
  stopped_work a status.NoMemory h = is_workload a a status.NoMemory tt refl tt (λ e. cc) tt (inl (refl, refl))
  stopped_work a s h = absurd h

  module _ (a b : World) (fetches : b.fetches ≡ a.fetches) where
    -- a workload that left all that it leaves, with this verdict
    left_work : (v : Verdict) → LeavesAll steps log a b (status_of v) → IsWorkload steps log a b (status_of v)
    left_work ending.Done l = is_workload a b status.Done tt fetches tt (λ e. cc) l tt
    left_work ending.Exhausted l = is_workload a b status.Exhausted tt fetches tt (λ e. cc) l tt
    left_work (ending.Faulted step kind) l = is_workload a b status.Faulted tt fetches tt (λ e. cc) l tt

    -- a workload whose work was written, or in part
    pub written_work : (w : Work) → IsWork steps w → (written : Result (Unit {0}) Halt) → OnOk written (b.files ≡ with_files ((log, w.log.items) ∷ []) a.files)
        → OnOk written (GrewBy w.line.items a.bytes b.bytes) → OnErr written (StopsOnTheWay ((log, w.log.items) ∷ []) w.line.items a b)
        → (IsErrOf written halt.WriteFault → Rose a.keeps b.keeps ⊎ Rose a.puts b.puts) → IsWorkload steps log a b (status_after w.verdict written)
    written_work w work (Ok done) kept put part cause = left_work w.verdict (leaves_all steps log a b w work (status_of w.verdict) refl kept put)
    written_work w work (Err halt.WriteFault) kept put part cause =
        is_workload a b status.WriteFault tt fetches tt (λ e. cause refl) tt (leaves_part steps log a b w work part)
    written_work w work (Err halt.NoMemory) kept put part cause = is_workload a b status.NoMemory tt fetches tt (λ e. cc) tt (leaves_part steps log a b w work part)
