-- How a replay ended, and what it leaves of the told files and bytes.
use Rattle.std.proofs.Common.{◌≡◌, inr, ◌∙◌, ℕ, List, [], ◌∷◌, refl, sym, ap, subst, Result, Ok, Err, Option}
use Rattle.std.specs.Result.{IsOkAnd, IsOk}
use Rattle.calculus.specs.Rows.{Row}
use Rattle.rho_outside.specs.FileMap.{FileMap}
use Rattle.rho_outside.specs.Put.{GrewBy}
use Rattle.rho_outside.specs.Kept.{with_files}
use Rattle.command_words.specs.Commands.{RunRequest}
use Rattle.run_inputs.specs.Inputs.{Task, accepted_log}
use Rattle.run_inputs.specs.Given.{IsGiven, AreReplayAccepted}
use Rattle.run_inputs.specs.Runnable.{IsRunnable}
use Rattle.run_inputs.specs.Replaying.{ReplayRefusedFor}
use Rattle.run_inputs.specs.Ended.{IsReplayable, IsReplayAccepted, ReplayEnds}
use Rattle.run_inputs.specs.declared.acceptance.ReplayInputs.{ReplayInputs}
use Rattle.run_reports.specs.Stops.{StopsOnTheWay}
use Rattle.run_reports.specs.World.{World}
use Rattle.replays.specs.declared.fault.ReplayFault.{ReplayFault}
use Rattle.run_status.specs.Endings.{status_of}
use Rattle.run_status.specs.declared.status.Status.{Status}
use Rattle.run_status.specs.declared.status.Status.TheVariants as status
use Rattle.recorded_runs.specs.Runs.{bytes_of}
use Rattle.recorded_runs.specs.Replaying.{IsSettled, ReplayLeaves, ReplayLeavesAll, ReplayLeavesInPart, ReplayLeavesSome}
use Rattle.recorded_runs.specs.ReplayPlans.{IsReplayStop, IsReplayPlan, planned_replay}
use Rattle.recorded_runs.specs.declared.replaying.ReplayPlan.{ReplayPlan}
use Rattle.recorded_runs.proofs.Answering.{settled_refusal, settled_fault, settled_verdict, left_by_replay}

-- what holds of an accepted value holds of more
ok_more : {A E : Type 0} (P Q : A → Type 0) (v : Result A E) → ((x : A) → P x → Q x) → IsOkAnd v P → IsOkAnd v Q
ok_more P Q (Ok x) h k = h x k
ok_more P Q (Err e) h k = absurd k

module _ (told : Option FileMap) (names : RunRequest) (before now : ℕ) where
  -- a refusal has its cause
  pub replay_refused_ends : (s : Status) → ReplayRefusedFor told names before now s → ReplayEnds IsSettled told names before now s
  replay_refused_ends (status.ReadFault i) h = h
  replay_refused_ends (status.TooLarge i n m) h = h
  replay_refused_ends (status.State f) h = h
  replay_refused_ends (status.Prices f) h = h
  replay_refused_ends (status.Source f) h = h
  replay_refused_ends (status.Log f) h = h
  replay_refused_ends status.NoMemory h = h
  replay_refused_ends (status.Limit n m) h = absurd h
  replay_refused_ends status.Done h = absurd h
  replay_refused_ends status.Exhausted h = absurd h
  replay_refused_ends status.Faulted h = absurd h
  replay_refused_ends status.WriteFault h = absurd h
  replay_refused_ends (status.Usage u) h = absurd h
  replay_refused_ends (status.Replay f) h = absurd h

module _ (a : World) (names : RunRequest) (r : ReplayInputs) (given : AreReplayAccepted a.files names r) where
  -- the rows of the state
  abbrev rows : List Row
  rows = r.inputs.base.checkpoint

  accepted-so : (s : Status) → ((inputs : Task × List ℕ) → IsGiven r inputs → IsSettled s inputs) → IsReplayAccepted (IsSettled s) a.files names
  accepted-so s known files e = (given.has_state files e, ok_more (IsGiven r) (IsReplayable (IsSettled s)) (accepted_log names files) one (given.accepted files e))
    where
      one : (inputs : Task × List ℕ) → IsGiven r inputs → IsReplayable (IsSettled s) inputs
      one inputs i = record {
        run = subst (λ (t : Task). IsRunnable t) (sym i.task) ((rows, given.state), (r.inputs.term, given.term));
        read = subst (λ (l : Result _ _). IsOk l) (sym i.log) refl;
        more = known inputs i;
      }

  -- the log is refused
  pub settled_stop : (f : ReplayFault) → IsReplayStop rows r (status.Replay f) → IsReplayAccepted (IsSettled (status.Replay f)) a.files names
  settled_stop f h = accepted-so (status.Replay f) (λ inputs i. settled_refusal rows r inputs i given.state given.term f h)

  module _ (p : ReplayPlan) (plan : IsReplayPlan rows r p) where
    -- it ended with the verdict of a plan
    pub settled_end : IsReplayAccepted (IsSettled (status_of p.verdict)) a.files names
    settled_end = accepted-so (status_of p.verdict) (λ inputs i. settled_verdict rows r inputs i given.state given.term p plan)

    -- or a write of a plan failed
    pub settled_halt : IsReplayAccepted (IsSettled status.WriteFault) a.files names
    settled_halt = accepted-so status.WriteFault (λ inputs i. settled_fault rows r inputs i given.state given.term p plan)

    -- a plan that was written is all that a replay leaves
    pub replay_leaves : (b : World) → b.files ≡ with_files (planned_replay names p) a.files → GrewBy p.bytes.items a.bytes b.bytes → ReplayLeaves (status_of p.verdict) names a b
    replay_leaves b kept put files h =
        let there : b.files ≡ with_files ((names.next, plan.left.next) ∷ []) a.files = kept ∙ ap (λ n. with_files ((names.next, n) ∷ []) a.files) plan.next in
        ok_more (IsGiven r) (ReplayLeavesAll (status_of p.verdict) names a b) (accepted_log names files) (λ inputs i.
        (plan.left, (record { replay = left_by_replay rows r inputs i given.state given.term p plan; verdict = ap status_of plan.verdict }, (there, subst (λ (l : List ℕ). GrewBy l a.bytes b.bytes) plan.bytes put)))) (given.accepted files h)

    -- a plan that was written in part is some of it
    pub replay_leaves_some : (b : World) → StopsOnTheWay (planned_replay names p) p.bytes.items a b → ReplayLeavesInPart names a b
    replay_leaves_some b stops files e =
        let F = λ (n bytes : List ℕ). StopsOnTheWay ((names.next, n) ∷ []) bytes a b in
        let all : F plan.left.next (bytes_of plan.left) = subst (λ y. F plan.left.next y) plan.bytes (subst (λ n. F n p.bytes.items) plan.next stops) in
        inr (ok_more (IsGiven r) (ReplayLeavesSome names a b) (accepted_log names files) (λ inputs i.
        (plan.left, (left_by_replay rows r inputs i given.state given.term p plan, all))) (given.accepted files e))
