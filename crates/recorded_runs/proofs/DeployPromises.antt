-- What is promised of a deploy, from how it ended.
use Rattle.std.proofs.Common.{◌≡◌, ◌≤◌, ◌⊎◌, inl, inr, ℕ, Option, sym, subst}
use Rattle.rho_outside.specs.Causes.{Rose}
use Rattle.rho_outside.specs.FileMap.{FileMap}
use Rattle.command_words.specs.Commands.{RunRequest}
use Rattle.run_inputs.specs.Inputs.{accepted_state, accepted}
use Rattle.run_inputs.specs.Refused.{RefusedFor}
use Rattle.run_inputs.specs.Ended.{DeployEnds, IsAccepted}
use Rattle.run_inputs.proofs.Exact.{if_ok, deploy_exact, deploy_state_exact, deploy_source_exact, deploy_complete}
use Rattle.run_reports.specs.World.{World, world}
use Rattle.run_status.specs.Endings.{OnRefusal, OnHalt, OnVerdict, status_of}
use Rattle.replays.specs.declared.verdict.Verdict.{Verdict}
use Rattle.replays.specs.declared.verdict.Verdict.TheVariants as ending
use Rattle.run_status.specs.declared.status.Status.{Status}
use Rattle.run_status.specs.declared.status.Status.TheVariants as status
use Rattle.recorded_runs.specs.Fetched.{HasFetched}
use Rattle.recorded_runs.proofs.Endings.{on_refused, rose_before, fetched_world}
use Rattle.recorded_runs.specs.Deploys.{IsDeploy}
use Rattle.recorded_runs.specs.Ends.{Leaves, LeavesInPart}
use Rattle.recorded_runs.proofs.Ending.{refused_ends}

-- the end of a deploy, from fewer failed fetches
earlier-ends : (told : Option FileMap) (names : RunRequest) (limit before mid now : ℕ) → before ≤ mid → (s : Status) → DeployEnds told names limit mid now s → DeployEnds told names limit before now s
earlier-ends told names limit before mid now l (status.ReadFault i) h = (read h.0, h.1)
  where
    read : {B : Type 0} → Rose mid now ⊎ B → Rose before now ⊎ B
    read (inl r) = inl (rose_before before mid now l r)
    read (inr b) = inr b
earlier-ends told names limit before mid now l (status.TooLarge i n m) h = h
earlier-ends told names limit before mid now l (status.State f) h = h
earlier-ends told names limit before mid now l (status.Prices f) h = h
earlier-ends told names limit before mid now l (status.Limit n m) h = h
earlier-ends told names limit before mid now l (status.Source f) h = h
earlier-ends told names limit before mid now l status.NoMemory h = h
earlier-ends told names limit before mid now l status.Done h = h
earlier-ends told names limit before mid now l status.Exhausted h = h
earlier-ends told names limit before mid now l status.Faulted h = h
earlier-ends told names limit before mid now l status.WriteFault h = h
earlier-ends told names limit before mid now l (status.Usage u) h = absurd h
earlier-ends told names limit before mid now l (status.Log f) h = absurd h
earlier-ends told names limit before mid now l (status.Replay f) h = absurd h

module _ (names : RunRequest) (limit : ℕ) where
  -- what the inputs are refused for is said, and a deploy that is refused nothing ended
  pub is_deploy : (a b : World) (s : Status) → DeployEnds a.files names limit a.fetches b.fetches s → OnRefusal s ((b.files ≡ a.files) × (b.bytes ≡ a.bytes))
      → (s ≡ status.WriteFault → Rose a.keeps b.keeps ⊎ Rose a.puts b.puts) → OnVerdict s (Leaves s names limit a b)
      → OnHalt s (LeavesInPart names limit a b) → IsDeploy names limit a b s
  is_deploy a b s ends stays write_fault verdict part =
      let told = a.files in
      let before = a.fetches in
      let now = b.fetches in
      record {
        is_exact = record {
          ends = ends;
          exact = λ files e own. deploy_exact told names limit before now files e own s ends;
          state_exact = λ files e own. if_ok _ (accepted_state names files) (λ state x. deploy_state_exact told names limit before now files e own s ends state x);
          source_exact = λ files e own has. if_ok _ (accepted names limit files) (λ task x n. deploy_source_exact told names limit before now files e own task x n has s ends);
        };
        complete = λ files e own has. if_ok _ (accepted names limit files) (λ task x process n k p. deploy_complete told names limit before now files e own task x n has s _ _ ends process write_fault k p);
        stays = stays;
        write_fault = write_fault;
        verdict = verdict;
        part = part;
      }

  -- a deploy of accepted inputs that left all that it leaves, with this verdict
  pub left_deploy : (a b : World) → IsAccepted a.files names limit → (v : Verdict) → Leaves (status_of v) names limit a b → IsDeploy names limit a b (status_of v)
  left_deploy a b accepted ending.Done l = is_deploy a b status.Done accepted tt (λ e. cc) l tt
  left_deploy a b accepted ending.Exhausted l = is_deploy a b status.Exhausted accepted tt (λ e. cc) l tt
  left_deploy a b accepted (ending.Faulted step kind) l = is_deploy a b status.Faulted accepted tt (λ e. cc) l tt

  -- a deploy whose inputs are refused
  pub refused_deploy : (a b : World) → HasFetched a b → (s : Status) → RefusedFor a.files names limit a.fetches b.fetches s → IsDeploy names limit a b s
  refused_deploy a b f s h =
      let x = on_refused (λ (r : Status). RefusedFor a.files names limit a.fetches b.fetches r) (λ n. n) (λ n. n) (λ n. n) (λ n. n)
      ((b.files ≡ a.files) × (b.bytes ≡ a.bytes)) (Leaves s names limit a b) (LeavesInPart names limit a b)
      (Rose a.keeps b.keeps ⊎ Rose a.puts b.puts) (f.files, f.bytes) (λ files e. inl (f.files, f.bytes)) s h in
      is_deploy a b s (refused_ends a.files names limit a.fetches b.fetches s h) x.0 x.1.1.1 x.1.0 x.1.1.0

  -- a deploy that goes on after its inputs were fetched
  pub deploy_after : (a m b : World) → HasFetched a m → (s : Status) → IsDeploy names limit m b s → IsDeploy names limit a b s
  deploy_after a m b f s d =
      let At = λ (w : World). IsDeploy names limit w b s in
      let n : World = world a.files m.fetches a.keeps a.bytes a.puts in
      let x : At n = subst At (sym (fetched_world a m f)) d in
      is_deploy a b s (earlier-ends a.files names limit a.fetches m.fetches b.fetches f.fetches s x.is_exact.ends) x.stays x.write_fault x.verdict x.part
