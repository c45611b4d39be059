-- What is promised of a replay, from how it ended.
use Rattle.std.proofs.Common.{◌≡◌, ◌≤◌, ◌⊎◌, inl, inr, ℕ, List, Option, sym, subst}
use Rattle.rho_outside.specs.Causes.{Rose}
use Rattle.rho_outside.specs.FileMap.{FileMap}
use Rattle.command_words.specs.Commands.{RunRequest}
use Rattle.run_inputs.specs.Inputs.{Task, accepted_state, accepted_source, accepted_log}
use Rattle.run_inputs.specs.Replaying.{ReplayRefusedFor}
use Rattle.run_inputs.specs.Ended.{IsReplayAccepted, ReplayEnds}
use Rattle.run_inputs.proofs.Exact.{if_ok}
use Rattle.run_inputs.proofs.ReplayExact.{replay_exact, replay_state_exact, replay_source_exact, replay_log_exact, replay_known}
use Rattle.run_reports.specs.World.{World, world}
use Rattle.run_status.specs.Endings.{OnRefusal, OnHalt, OnVerdict, status_of}
use Rattle.replays.specs.declared.verdict.Verdict.{Verdict}
use Rattle.replays.specs.declared.verdict.Verdict.TheVariants as ending
use Rattle.run_status.specs.declared.status.Status.{Status}
use Rattle.run_status.specs.declared.status.Status.TheVariants as status
use Rattle.recorded_runs.specs.Fetched.{HasFetched}
use Rattle.recorded_runs.proofs.Endings.{on_refused, rose_before, fetched_world}
use Rattle.recorded_runs.specs.Replaying.{IsSettled, ReplayLeaves, ReplayLeavesInPart}
use Rattle.recorded_runs.specs.Replays.{IsReplay}
use Rattle.recorded_runs.proofs.Answering.{tells_of, ends_if_run}
use Rattle.recorded_runs.proofs.ReplayEnding.{replay_refused_ends}

-- the end of a replay, from fewer failed fetches
earlier-ends : (More : Status → Task × List ℕ → Type 0) (told : Option FileMap) (names : RunRequest) (before mid now : ℕ) → before ≤ mid → (s : Status) → ReplayEnds More told names mid now s → ReplayEnds More told names before now s
earlier-ends More told names before mid now l (status.ReadFault i) h = (read h.0, h.1)
  where
    read : {B : Type 0} → Rose mid now ⊎ B → Rose before now ⊎ B
    read (inl r) = inl (rose_before before mid now l r)
    read (inr b) = inr b
earlier-ends More told names before mid now l (status.TooLarge i n m) h = h
earlier-ends More told names before mid now l (status.State f) h = h
earlier-ends More told names before mid now l (status.Prices f) h = h
earlier-ends More told names before mid now l (status.Source f) h = h
earlier-ends More told names before mid now l (status.Log f) h = h
earlier-ends More told names before mid now l (status.Replay f) h = h
earlier-ends More told names before mid now l status.NoMemory h = h
earlier-ends More told names before mid now l status.Done h = h
earlier-ends More told names before mid now l status.Exhausted h = h
earlier-ends More told names before mid now l status.Faulted h = h
earlier-ends More told names before mid now l status.WriteFault h = h
earlier-ends More told names before mid now l (status.Limit n m) h = absurd h
earlier-ends More told names before mid now l (status.Usage u) h = absurd h

module _ (names : RunRequest) where
  -- what the inputs and the log are refused for is said, and a replay that is refused nothing ended
  pub is_replay : (a b : World) (s : Status) → ReplayEnds IsSettled a.files names a.fetches b.fetches s → OnRefusal s ((b.files ≡ a.files) × (b.bytes ≡ a.bytes))
      → (s ≡ status.WriteFault → Rose a.keeps b.keeps ⊎ Rose a.puts b.puts) → OnVerdict s (ReplayLeaves s names a b)
      → OnHalt s (ReplayLeavesInPart names a b) → IsReplay names a b s
  is_replay a b s ends stays write_fault verdict part =
      let told = a.files in
      let before = a.fetches in
      let now = b.fetches in
      record {
        is_exact = record {
          ends = ends;
          exact = λ files e own. replay_exact IsSettled told names before now files e own s ends;
          state_exact = λ files e own. if_ok _ (accepted_state names files) (λ state x. replay_state_exact IsSettled told names before now files e own s ends state x);
          source_exact = λ files e own has. if_ok _ (accepted_source names files) (λ task x n. replay_source_exact IsSettled told names before now files e own task x n has s ends);
          log_exact = λ files e own has. if_ok _ (accepted_log names files) (λ inputs x run n. replay_log_exact IsSettled told names before now files e own inputs x n has s ends run);
          answer_exact = λ files e own has. if_ok _ (accepted_log names files) (λ inputs x run n. tells_of inputs s (λ k. replay_known IsSettled told names before now files e own inputs x n has s ends run k));
        };
        complete = λ files e own has. if_ok _ (accepted_log names files) (λ inputs x run n k p. ends_if_run inputs s _ _ write_fault k p (tells_of inputs s (λ l. replay_known IsSettled told names before now files e own inputs x n has s ends run l)));
        stays = stays;
        write_fault = write_fault;
        verdict = verdict;
        part = part;
      }

  -- a replay of accepted inputs that left all that it leaves, with this verdict
  pub left_replay : (a b : World) (v : Verdict) → IsReplayAccepted (IsSettled (status_of v)) a.files names → ReplayLeaves (status_of v) names a b → IsReplay names a b (status_of v)
  left_replay a b ending.Done accepted l = is_replay a b status.Done accepted tt (λ e. cc) l tt
  left_replay a b ending.Exhausted accepted l = is_replay a b status.Exhausted accepted tt (λ e. cc) l tt
  left_replay a b (ending.Faulted step kind) accepted l = is_replay a b status.Faulted accepted tt (λ e. cc) l tt

  -- a replay whose inputs are refused
  pub refused_replay : (a b : World) → HasFetched a b → (s : Status) → ReplayRefusedFor a.files names a.fetches b.fetches s → IsReplay names a b s
  refused_replay a b f s h =
      let x = on_refused (λ (r : Status). ReplayRefusedFor a.files names a.fetches b.fetches r) (λ n. n) (λ n. n) (λ n. n) (λ n. n)
      ((b.files ≡ a.files) × (b.bytes ≡ a.bytes)) (ReplayLeaves s names a b) (ReplayLeavesInPart names a b)
      (Rose a.keeps b.keeps ⊎ Rose a.puts b.puts) (f.files, f.bytes) (λ files e. inl (f.files, f.bytes)) s h in
      is_replay a b s (replay_refused_ends a.files names a.fetches b.fetches s h) x.0 x.1.1.1 x.1.0 x.1.1.0

  -- a replay that goes on after its inputs were fetched
  pub replay_after : (a m b : World) → HasFetched a m → (s : Status) → IsReplay names m b s → IsReplay names a b s
  replay_after a m b f s d =
      let At = λ (w : World). IsReplay names w b s in
      let x : At (world a.files m.fetches a.keeps a.bytes a.puts) = subst At (sym (fetched_world a m f)) d in
      is_replay a b s (earlier-ends IsSettled a.files names a.fetches m.fetches b.fetches f.fetches s x.is_exact.ends) x.stays x.write_fault x.verdict x.part
