-- What a replay that accepts its inputs says of the answer to its log.
use Rattle.std.proofs.Common.{◌≡◌, ◌∙◌, ◌⊎◌, inl, inr, ℕ, List, refl, sym, ap, subst, Result, Ok, None}
use Rattle.std.specs.Result.{IsOk}
use Rattle.calculus.specs.Log.{Step, Header}
use Rattle.calculus.specs.Rows.{Row}
use Rattle.calculus.specs.Runs.{Verdict, done, exhausted, faulted}
use Rattle.calculus.specs.Tree.{Tree}
use Rattle.replays.specs.Replays.{Outcome, Answer, refused, replayed, header_refusal, deploy_under, Answers}
use Rattle.replays.proofs.Answering.{one_answer}
use Rattle.sources.specs.Sources.{IsSourceOf}
use Rattle.sources.proofs.Answering.{one_term}
use Rattle.event_log.specs.Reading.{log_of}
use Rattle.event_log.specs.declared.fault.LogFault.{LogFault}
use Rattle.replay_answers.specs.Answers.{Clashes}
use Rattle.replays.specs.declared.fault.ReplayFault.{ReplayFault}
use Rattle.replays.specs.View.{verdict_of}
use Rattle.replays.specs.declared.verdict.Verdict.{Verdict as Ending}
use Rattle.replays.specs.declared.verdict.Verdict.TheVariants as ending
use Rattle.run_inputs.specs.Inputs.{Task}
use Rattle.run_inputs.specs.Given.{IsGiven}
use Rattle.run_inputs.specs.Bases.{IsStateOf}
use Rattle.run_inputs.proofs.OneState.{one_state}
use Rattle.run_inputs.specs.declared.acceptance.ReplayInputs.{ReplayInputs}
use Rattle.run_status.specs.Endings.{status_of, HasEnded}
use Rattle.run_status.specs.declared.status.Status.{Status}
use Rattle.run_status.specs.declared.status.Status.TheVariants as status
use Rattle.recorded_runs.specs.Replaying.{IsOfSteps, given_in, AreReadAs, IsAnswerTo, HasClash, RefusesStepsAlone, SaysAnswer, IsSettled, status_for, IsLeftByOutcome, IsLeftByAnswer, IsLeftByReplay}
use Rattle.recorded_runs.specs.ReplayPlans.{given_of, header_in, steps_in, ClashIn, IsRefusedBy, IsReplayPlan}
use Rattle.recorded_runs.specs.Replays.{TellsAnswer, EndsIfRun}
use Rattle.recorded_runs.specs.declared.replaying.ReplayPlan.{ReplayPlan}

-- one log stands in equal results
same-log : (x y : Header × List Step) → (let r : Result (Header × List Step) LogFault = Ok x in r) ≡ Ok y → x ≡ y
same-log x y e = cc e

-- inputs are read in one way
module _ (inputs : Task × List ℕ) where
  pub one_reading : (q r : List Row) (t u : Tree) (h k : Header) (ss ts : List Step) → AreReadAs inputs q t h ss → AreReadAs inputs r u k ts → (q ≡ r) × ((t ≡ u) × ((h ≡ k) × (ss ≡ ts)))
  one_reading q r t u h k ss ts a b =
      let logs = same-log (h, ss) (k, ts) (sym a.log ∙ b.log) in
      (one_state inputs.0.state q r a.state b.state, (one_term inputs.0.source t u a.spelt b.spelt, (ap (λ (p : Header × List Step). p.0) logs, ap (λ (p : Header × List Step). p.1) logs)))

  -- their log has one answer
  pub one_answer_to : (x y : Answer) → IsAnswerTo inputs x → IsAnswerTo inputs y → x ≡ y
  one_answer_to x y a b =
      let same = one_reading a.rows b.rows a.process b.process a.header b.header a.steps b.steps a.read b.read in
      let F = λ (rs : List Row) (t : Tree) (h : Header) (ss : List Step). Answers (given_in rs inputs.0 t) h ss x in
      let moved : F b.rows b.process b.header b.steps =
      subst (λ (ss : List Step). F b.rows b.process b.header ss) same.1.1.1
      (subst (λ (h : Header). F b.rows b.process h a.steps) same.1.1.0
      (subst (λ (t : Tree). F b.rows t a.header a.steps) same.1.0
      (subst (λ (rs : List Row). F rs a.process a.header a.steps) same.0 a.is))) in
      one_answer (given_in b.rows inputs.0 b.process) b.header b.steps x y moved b.is

  -- what is settled says the answer
  pub tells : (s : Status) → (s ≡ status.NoMemory) ⊎ IsSettled s inputs → TellsAnswer inputs s
  tells s (inl m) answer a = inl m
  tells s (inr (inl k)) answer a = inr (inl (subst (λ (x : Answer). SaysAnswer x s) (one_answer_to k.0 answer k.1.1 a) k.1.0))
  tells s (inr (inr c)) answer a = inr (inr c)

  -- and where the log is read, what is settled then
  pub tells_of : (s : Status) → (IsOk (log_of inputs.1) → (s ≡ status.NoMemory) ⊎ IsSettled s inputs) → TellsAnswer inputs s
  tells_of s known answer a = tells s (known (subst (λ (l : Result _ _). IsOk l) (sym a.read.log) refl)) answer a

ends-for : (v : Verdict) → HasEnded (status_for v)
ends-for done = tt
ends-for exhausted = tt
ends-for (faulted step kind) = tt

-- a status that says an outcome is an end, where no write failed
says-end : (s : Status) (o : Outcome) → ¬ (s ≡ status.WriteFault) → SaysAnswer (replayed o) s → HasEnded s
says-end status.WriteFault o w h = absurd (w refl)
says-end status.Done o w h = tt
says-end status.Exhausted o w h = tt
says-end status.Faulted o w h = tt
says-end status.NoMemory o w h = tt
says-end (status.Usage u) o w h = subst HasEnded (sym h) (ends-for o.verdict)
says-end (status.ReadFault i) o w h = subst HasEnded (sym h) (ends-for o.verdict)
says-end (status.Source f) o w h = subst HasEnded (sym h) (ends-for o.verdict)
says-end (status.Prices f) o w h = subst HasEnded (sym h) (ends-for o.verdict)
says-end (status.Limit n m) o w h = subst HasEnded (sym h) (ends-for o.verdict)
says-end (status.Log f) o w h = subst HasEnded (sym h) (ends-for o.verdict)
says-end (status.Replay f) o w h = subst HasEnded (sym h) (ends-for o.verdict)
says-end (status.State f) o w h = subst HasEnded (sym h) (ends-for o.verdict)
says-end (status.TooLarge i n m) o w h = subst HasEnded (sym h) (ends-for o.verdict)

-- where a log is answered by an outcome and nothing failed, the replay ended or memory is wanted
pub ends_if_run : (inputs : Task × List ℕ) (s : Status) (A B : Type 0) → (s ≡ status.WriteFault → A ⊎ B) → ¬ A → ¬ B → TellsAnswer inputs s → EndsIfRun inputs s
ends_if_run inputs s A B w x y t o a = go (t (replayed o) a)
  where
    no-fault : ¬ (s ≡ status.WriteFault)
    no-fault e = neither (w e)
      where
        neither : A ⊎ B → ⊥
        neither (inl p) = x p
        neither (inr q) = y q

    go : (s ≡ status.NoMemory) ⊎ (SaysAnswer (replayed o) s ⊎ (HasClash inputs × RefusesStepsAlone s)) → HasEnded s ⊎ HasClash inputs
    go (inl m) = inl (subst HasEnded (sym m) tt)
    go (inr (inl h)) = inl (says-end s o no-fault h)
    go (inr (inr c)) = inr c.0

module _ (rows : List Row) (r : ReplayInputs) (inputs : Task × List ℕ) (i : IsGiven r inputs) (state : IsStateOf r.inputs.base.text.items rows) (spelt : IsSourceOf r.inputs.source.items r.inputs.term) where
  -- the inputs that were read
  given-read : AreReadAs inputs rows r.inputs.term (header_in r) (steps_in r)
  given-read = record {
    state = subst (λ (k : Task). IsStateOf k.state rows) (sym i.task) state;
    spelt = subst (λ (k : Task). IsSourceOf k.source r.inputs.term) (sym i.task) spelt;
    log = i.log;
  }

  moved-answer : (x : Answer) → Answers (given_of rows r) (header_in r) (steps_in r) x → IsAnswerTo inputs x
  moved-answer x a =
      record {
        rows = rows;
        process = r.inputs.term;
        header = header_in r;
        steps = steps_in r;
        read = given-read;
        is = subst (λ (k : Task). Answers (given_in rows k r.inputs.term) (header_in r) (steps_in r) x) (sym i.task) a;
      }

  moved-clash : header_refusal (given_of rows r) (header_in r) ≡ None → ClashIn rows r → HasClash inputs
  moved-clash right c =
      record {
        rows = rows;
        process = r.inputs.term;
        header = header_in r;
        steps = steps_in r;
        read = given-read;
        right = subst (λ (k : Task). header_refusal (given_in rows k r.inputs.term) (header_in r) ≡ None) (sym i.task) right;
        clash = subst (λ (k : Task). Clashes (deploy_under (header_in r).limit (given_in rows k r.inputs.term)) (steps_in r)) (sym i.task) c;
      }

  -- a log that is refused
  pub settled_refusal : (f : ReplayFault) → IsRefusedBy rows f r → IsSettled (status.Replay f) inputs
  settled_refusal f b = go b.answer
    where
      go : Answers (given_of rows r) (header_in r) (steps_in r) (refused b.refusal) ⊎ ((header_refusal (given_of rows r) (header_in r) ≡ None) × (ClashIn rows r × IsOfSteps f)) → IsSettled (status.Replay f) inputs
      go (inl a) = inl (refused b.refusal, (b.is, moved-answer (refused b.refusal) a))
      go (inr c) = inr (moved-clash c.0 c.1.0, c.1.1)

  module _ (p : ReplayPlan) (plan : IsReplayPlan rows r p) where
    -- a replay that left this
    pub left_by_replay : IsLeftByReplay inputs plan.left
    left_by_replay =
        record {
          rows = rows;
          process = r.inputs.term;
          header = header_in r;
          read = subst (λ (ss : List Step). AreReadAs inputs rows r.inputs.term (header_in r) ss) (sym plan.steps_are) given-read;
          right = subst (λ (k : Task). header_refusal (given_in rows k r.inputs.term) (header_in r) ≡ None) (sym i.task) plan.right;
          answer = subst (λ (k : Task). IsLeftByAnswer (given_in rows k r.inputs.term) (header_in r) plan.left) (sym i.task) plan.answer;
          steps = plan.steps;
          old = λ n. plan.old n ∙ ap (λ (k : Task). k.state) (sym i.task);
          silent = plan.silent;
        }

    -- and the outcome that it says
    settled-by : (s : Status) → RefusesStepsAlone s → ((o : Outcome) → verdict_of plan.left.report.verdict ≡ o.verdict → SaysAnswer (replayed o) s) → IsSettled s inputs
    settled-by s alone says = go plan.answer
      where
        go : ((o : Outcome) × (Answers (given_of rows r) (header_in r) plan.left.steps (replayed o) × IsLeftByOutcome o plan.left)) ⊎ Clashes (deploy_under (header_in r).limit (given_of rows r)) plan.left.steps → IsSettled s inputs
        go (inl k) = inl (replayed k.0, (says k.0 k.1.1.verdict_is, moved-answer (replayed k.0) (subst (λ (ss : List Step). Answers (given_of rows r) (header_in r) ss (replayed k.0)) plan.steps_are k.1.0)))
        go (inr c) = inr (moved-clash plan.right (subst (λ (ss : List Step). Clashes (deploy_under (header_in r).limit (given_of rows r)) ss) plan.steps_are c), alone)

    pub settled_fault : IsSettled status.WriteFault inputs
    settled_fault = settled-by status.WriteFault tt (λ o e. tt)

    pub settled_verdict : IsSettled (status_of p.verdict) inputs
    settled_verdict = subst (λ (v : Ending). IsSettled (status_of v) inputs) (sym plan.verdict) (settled-by (status_of plan.left.report.verdict) (alone plan.left.report.verdict) (says plan.left.report.verdict))
      where
        alone : (v : Ending) → RefusesStepsAlone (status_of v)
        alone ending.Done = tt
        alone ending.Exhausted = tt
        alone (ending.Faulted step kind) = tt

        says : (v : Ending) (o : Outcome) → verdict_of v ≡ o.verdict → SaysAnswer (replayed o) (status_of v)
        says ending.Done o e = ap status_for e
        says ending.Exhausted o e = ap status_for e
        says (ending.Faulted step kind) o e = ap status_for e
