-- What is promised of a call, from what is promised of its verb.
use Rattle.std.proofs.Common.{◌≡◌, ◌≤◌, inl, inr, ℕ, List, refl, sym, subst, Option, Some, None, Ok, Err, arith}
use Rattle.command_words.specs.Commands.{RunRequest, WorkloadRequest, deploy, genesis, inspect, replay, workload}
use Rattle.command_words.specs.declared.usage.Usage.{Usage}
use Rattle.rho_outside.specs.FileMap.{FileMap, SameBut}
use Rattle.recorded_runs.specs.Fetched.{HasFetched}
use Rattle.recorded_runs.specs.Deploys.{IsDeploy}
use Rattle.recorded_runs.proofs.DeployPromises.{refused_deploy, deploy_after}
use Rattle.run_inputs.specs.Ended.{DeployEnds, ReplayEnds}
use Rattle.run_inspects.specs.Inspects.{IsInspect}
use Rattle.recorded_runs.specs.Replays.{IsReplay}
use Rattle.recorded_runs.specs.Replaying.{IsSettled}
use Rattle.recorded_runs.proofs.ReplayPromises.{refused_replay, replay_after}
use Rattle.run_reports.specs.World.{World}
use Rattle.run_status.specs.Endings.{OnUsage}
use Rattle.run_status.specs.declared.status.Status.{Status}
use Rattle.run_status.specs.declared.status.Status.TheVariants as status
use Rattle.rho_main.specs.Accepting.{InputsRefused, FetchesIn}
use Rattle.rho_main.specs.Calls.{IsCallIn}
use Rattle.run_inspects.specs.Genesis.{IsGenesis}
use Rattle.recorded_runs.specs.Workloads.{IsWorkload, WorkloadEnds}
use Rattle.rho_main.specs.Words.{Answer, IsSaidBy}

-- a status with a cause that no refusal of words has is none of them
module _ (Cause : Status → Type 0) (words : (u : Usage) → Cause (status.Usage u) → ⊥) (P : Usage → Type 0) where
  of-verb : (s : Status) → Cause s → OnUsage s P
  of-verb (status.Usage u) h = absurd (words u h)
  of-verb status.Done h = tt
  of-verb (status.ReadFault i) h = tt
  of-verb status.WriteFault h = tt
  of-verb (status.State f) h = tt
  of-verb (status.Source f) h = tt
  of-verb (status.Prices f) h = tt
  of-verb (status.Limit n m) h = tt
  of-verb (status.Log f) h = tt
  of-verb (status.Replay f) h = tt
  of-verb status.Exhausted h = tt
  of-verb status.Faulted h = tt
  of-verb status.NoMemory h = tt
  of-verb (status.TooLarge i n m) h = tt

module _ (a b : World) (s : Status) where
  -- words that ask for a deploy, which was done
  pub deploy_call : (answer : Answer) (names : RunRequest) (limit : ℕ) → answer ≡ Some (Ok (deploy names limit)) → IsDeploy names limit a b s → IsCallIn answer a b s
  deploy_call answer names limit e d =
      let asked : Answer = Some (Ok (deploy names limit)) in
      let none = of-verb (λ (r : Status). DeployEnds a.files names limit a.fetches b.fetches r) (λ u h. h) (IsSaidBy asked) s d.is_exact.ends in
      let call : IsCallIn asked a b s = record { usage = none; usage_exact = λ h. absurd h; usage_stays = λ h. absurd h; genesis = tt; deploy = d; replay = tt; inspect = tt; workload = tt } in
      subst (λ (x : Answer). IsCallIn x a b s) (sym e) call

  -- words that ask for a replay, which was done
  pub replay_call : (answer : Answer) (names : RunRequest) → answer ≡ Some (Ok (replay names)) → IsReplay names a b s → IsCallIn answer a b s
  replay_call answer names e d =
      let asked : Answer = Some (Ok (replay names)) in
      let none = of-verb (λ (r : Status). ReplayEnds IsSettled a.files names a.fetches b.fetches r) (λ u h. h) (IsSaidBy asked) s d.is_exact.ends in
      let call : IsCallIn asked a b s = record { usage = none; usage_exact = λ h. absurd h; usage_stays = λ h. absurd h; genesis = tt; deploy = tt; replay = d; inspect = tt; workload = tt } in
      subst (λ (x : Answer). IsCallIn x a b s) (sym e) call

  -- words that ask for a workload, which was done
  pub workload_call : (answer : Answer) (request : WorkloadRequest) → answer ≡ Some (Ok (workload request)) → IsWorkload request.steps request.log a b s → IsCallIn answer a b s
  workload_call answer request e d =
      let asked : Answer = Some (Ok (workload request)) in
      let none = of-verb (λ (r : Status). WorkloadEnds request.steps r) (λ u h. h) (IsSaidBy asked) s d.ends in
      let call : IsCallIn asked a b s = record { usage = none; usage_exact = λ h. absurd h; usage_stays = λ h. absurd h; genesis = tt; deploy = tt; replay = tt; inspect = tt; workload = d } in
      subst (λ (x : Answer). IsCallIn x a b s) (sym e) call

-- the same of a workload, where nothing was done before
pub workload_went_on : (a m b : World) (s : Status) (answer : Answer) (request : WorkloadRequest) → answer ≡ Some (Ok (workload request)) → FetchesIn answer a m → IsWorkload request.steps request.log m b s → IsCallIn answer a b s
workload_went_on a m b s answer request e f d =
    let same : m ≡ a = subst (λ (x : Answer). FetchesIn x a m) e f in
    workload_call a b s answer request e (subst (λ (w : World). IsWorkload request.steps request.log w b s) same d)

module _ (a m b : World) (s : Status) (answer : Answer) (names : RunRequest) where
  -- the same, where the inputs were accepted first
  pub deploy_went_on : (limit : ℕ) → answer ≡ Some (Ok (deploy names limit)) → FetchesIn answer a m → IsDeploy names limit m b s → IsCallIn answer a b s
  deploy_went_on limit e f d = deploy_call a b s answer names limit e (deploy_after names limit a m b (subst (λ (x : Answer). FetchesIn x a m) e f) s d)

  pub replay_went_on : answer ≡ Some (Ok (replay names)) → FetchesIn answer a m → IsReplay names m b s → IsCallIn answer a b s
  replay_went_on e f d = replay_call a b s answer names e (replay_after names a m b (subst (λ (x : Answer). FetchesIn x a m) e f) s d)

-- what a world fetched that did not change
still : (a : World) → HasFetched a a
still a = let l : a.fetches ≤ a.fetches = omega arith in record { files = refl; fetches = l; keeps = refl; bytes = refl; puts = refl }

same-but : (name : List ℕ) (told : Option FileMap) → SameBut name told told
same-but name None = tt
same-but name (Some files) = λ q n. refl

-- a state was not made, nor shown, for want of memory
genesis-wants : (name : List ℕ) (a : World) → IsGenesis name a a status.NoMemory
genesis-wants name a = record {
  ends = tt;
  all = λ e. cc;
  part = inl (record { part = inl (same-but name a.files); prefix = λ n. inl refl }, refl);
  write_fault = λ e. cc;
  complete = λ k p. inr refl;
}

inspect-wants : (name : List ℕ) (a : World) → IsInspect name a a status.NoMemory
inspect-wants name a = record {
  ends = tt;
  is_exact = record { missing = λ l. tt; large = λ n files e bytes g m. tt; no_state = λ n files e bytes g l own f h. tt; complete = λ n p files e bytes g l own is. inr refl };
  files = refl;
  keeps = refl;
  stays = tt;
  all = λ e. cc;
  part = inl refl;
  write_fault = λ e. cc;
}

workload-wants : (request : WorkloadRequest) (a : World) → IsWorkload request.steps request.log a a status.NoMemory
workload-wants request a = record {
  ends = tt;
  complete = λ k p. tt;
  fetches = refl;
  stays = tt;
  write_fault = λ e. cc;
  verdict = tt;
  part = inl (refl, refl);
}

-- want of memory before anything was done, whatever the words ask for
pub wanting_call : (answer : Answer) (a : World) → IsCallIn answer a a status.NoMemory
wanting_call None a = record { usage = tt; usage_exact = λ h. tt; usage_stays = λ h. (refl, refl); genesis = tt; deploy = tt; replay = tt; inspect = tt; workload = tt }
wanting_call (Some (Err r)) a = record { usage = tt; usage_exact = λ h. tt; usage_stays = λ h. (refl, refl); genesis = tt; deploy = tt; replay = tt; inspect = tt; workload = tt }
wanting_call (Some (Ok (genesis name))) a = record { usage = tt; usage_exact = λ h. tt; usage_stays = λ h. (refl, refl); genesis = genesis-wants name a; deploy = tt; replay = tt; inspect = tt; workload = tt }
wanting_call (Some (Ok (deploy names limit))) a = record { usage = tt; usage_exact = λ h. tt; usage_stays = λ h. (refl, refl); genesis = tt; deploy = refused_deploy names limit a a (still a) status.NoMemory tt; replay = tt; inspect = tt; workload = tt }
wanting_call (Some (Ok (replay names))) a = record { usage = tt; usage_exact = λ h. tt; usage_stays = λ h. (refl, refl); genesis = tt; deploy = tt; replay = refused_replay names a a (still a) status.NoMemory tt; inspect = tt; workload = tt }
wanting_call (Some (Ok (inspect name))) a = record { usage = tt; usage_exact = λ h. tt; usage_stays = λ h. (refl, refl); genesis = tt; deploy = tt; replay = tt; inspect = inspect-wants name a; workload = tt }
wanting_call (Some (Ok (workload request))) a = record { usage = tt; usage_exact = λ h. tt; usage_stays = λ h. (refl, refl); genesis = tt; deploy = tt; replay = tt; inspect = tt; workload = workload-wants request a }

pub wanting_refused : (answer : Answer) (a : World) → InputsRefused answer a.files a.fetches a.fetches status.NoMemory
wanting_refused None a = tt
wanting_refused (Some (Err r)) a = tt
wanting_refused (Some (Ok (genesis name))) a = tt
wanting_refused (Some (Ok (deploy names limit))) a = tt
wanting_refused (Some (Ok (replay names))) a = tt
wanting_refused (Some (Ok (inspect name))) a = tt
wanting_refused (Some (Ok (workload request))) a = refl

pub wanting_fetches : (answer : Answer) (a : World) → FetchesIn answer a a
wanting_fetches None a = tt
wanting_fetches (Some (Err r)) a = tt
wanting_fetches (Some (Ok (genesis name))) a = tt
wanting_fetches (Some (Ok (deploy names limit))) a = still a
wanting_fetches (Some (Ok (replay names))) a = still a
wanting_fetches (Some (Ok (inspect name))) a = tt
wanting_fetches (Some (Ok (workload request))) a = refl
