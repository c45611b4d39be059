-- What the play of the made input and the replay of its log say together.
use Rattle.std.proofs.Common.{◌≡◌, ◌∙◌, ◌⊎◌, inl, inr, ℕ, List, [], length, refl, sym, ap, subst, arith, Option}
use Rattle.std.specs.Result.{IsOk}
use Rattle.calculus.specs.declared.fault.FaultKind.{FaultKind}
use Rattle.calculus.specs.Log.{Step}
use Rattle.calculus.specs.Runs.{Verdict, done, exhausted, faulted}
use Rattle.event_log.specs.Reading.{log_of}
use Rattle.replays.specs.declared.fault.ReplayFault.{ReplayFault}
use Rattle.replays.specs.Replays.{Answers, Outcome, replayed, deploy_under}
use Rattle.replays.specs.View.{verdict_of}
use Rattle.replays.specs.declared.verdict.Verdict.{Verdict as Ending}
use Rattle.replays.specs.declared.verdict.Verdict.TheVariants as ending
use Rattle.replay_answers.specs.Answers.{Clashes}
use Rattle.recorded_runs.specs.Runs.{IsLeftBySource, Left, ShowsAClash}
use Rattle.recorded_runs.specs.Laws.{IsAnsweredAlike}
use Rattle.recorded_runs.specs.Replaying.{given_in, IsAnswerTo, IsLeftByOutcome, IsLeftByReplay, IsSettled, SaysAnswer, status_for}
use Rattle.recorded_runs.proofs.Answering.{one_answer_to, one_reading}
use Rattle.recorded_runs.proofs.Kept.{kept_logs_are_answered}
use Rattle.run_reports.specs.Report.{Report}
use Rattle.run_status.specs.declared.status.Status.TheVariants as status
use Rattle.recorded_runs.specs.Left.{AreAlike, IsLeftByWorkload, IsRefusedPlay, ShowsClash}
use Rattle.recorded_runs.specs.Made.{made_deploy, made_header, made_limit, made_log, made_replay, made_task}

-- no refusal is the status of a verdict
no-verdict : (f : ReplayFault) (v : Verdict) → status.Replay f ≡ status_for v → ⊥
no-verdict f done e = cc
no-verdict f exhausted e = cc
no-verdict f (faulted step kind) e = cc

-- a verdict of a report tells the calculus' one, and no other does
same-verdict : (v w : Ending) → verdict_of v ≡ verdict_of w → v ≡ w
same-verdict ending.Done ending.Done e = refl
same-verdict ending.Done ending.Exhausted e = absurd (other e)
  where
    other : done ≡ exhausted → ⊥
    other k = cc
same-verdict ending.Done (ending.Faulted step kind) e = absurd (other e)
  where
    other : done ≡ faulted step kind → ⊥
    other k = cc
same-verdict ending.Exhausted ending.Done e = absurd (other e)
  where
    other : exhausted ≡ done → ⊥
    other k = cc
same-verdict ending.Exhausted ending.Exhausted e = refl
same-verdict ending.Exhausted (ending.Faulted step kind) e = absurd (other e)
  where
    other : exhausted ≡ faulted step kind → ⊥
    other k = cc
same-verdict (ending.Faulted step kind) ending.Done e = absurd (other e)
  where
    other : faulted step kind ≡ done → ⊥
    other k = cc
same-verdict (ending.Faulted step kind) ending.Exhausted e = absurd (other e)
  where
    other : faulted step kind ≡ exhausted → ⊥
    other k = cc
same-verdict (ending.Faulted step kind) (ending.Faulted other fault) e = same step other kind fault e
  where
    same : (s t : Option ℕ) (k l : FaultKind) → faulted s k ≡ faulted t l → ending.Faulted s k ≡ ending.Faulted t l
    same s t k l h = cc

-- outcomes that say one answer are one
same-outcome : (o q : Outcome) → replayed o ≡ replayed q → o ≡ q
same-outcome o q e = cc

-- what says one outcome, with one number of steps, is alike
alike-by : (o : Outcome) (p l : Left) → IsLeftByOutcome o p → IsLeftByOutcome o l → p.report.steps ≡ l.report.steps → AreAlike p l
alike-by o p l a b s =
    let make = λ (v : Ending) (c : ℕ) (r : List ℕ) (n : ℕ). let x : Report = record { verdict = v; cost = c; root = r; steps = n } in x in
    let v = same-verdict p.report.verdict l.report.verdict (a.verdict_is ∙ sym b.verdict_is) in
    let c = a.cost_is ∙ sym b.cost_is in
    let r = a.root_is ∙ sym b.root_is in
    record {
      report = ap (λ w. make w p.report.cost p.report.root p.report.steps) v ∙ (ap (λ n. make l.report.verdict n p.report.root p.report.steps) c
          ∙ (ap (λ d. make l.report.verdict l.report.cost d p.report.steps) r ∙ ap (λ n. make l.report.verdict l.report.cost l.report.root n) s));
      next = a.next_is ∙ sym b.next_is;
      output = a.output_is ∙ sym b.output_is;
    }

module _ (steps : ℕ) (p : Left) (play : IsLeftBySource [] (made_task steps) made_limit p) where
  -- the log of the play is read, and answered by what the play left, or digests clash
  kept : IsAnsweredAlike [] (made_task steps) made_limit p
  kept = kept_logs_are_answered [] (made_task steps) made_limit p (omega arith) (omega arith) (omega arith) play

  -- its text is one of a log
  pub is_read : (text : List ℕ) → text ≡ made_log steps p.steps → IsOk (log_of text)
  is_read text e = subst (λ (x : List ℕ). IsOk (log_of x)) (sym e) (subst IsOk (sym kept.read) refl)

  -- an outcome that its log is answered by
  answered : (o : Outcome) → Answers (given_in [] (made_task steps) kept.process) (made_header steps) p.steps (replayed o) → IsAnswerTo (made_replay steps p.steps) (replayed o)
  answered o a =
      record {
        rows = [];
        process = kept.process;
        header = made_header steps;
        steps = p.steps;
        read = record { state = play.state; spelt = kept.spelt; log = kept.read };
        is = a;
      }

  -- digests clash along the steps of the play
  play-clash : ShowsAClash (made_deploy steps kept.process) p.steps → ShowsClash steps p.steps
  play-clash c = inl (kept.process, (kept.spelt, c))

  -- where its log is refused digests clash
  refused-clash : (f : ReplayFault) → IsSettled (status.Replay f) (made_replay steps p.steps) → ShowsClash steps p.steps
  refused-clash f (inr c) = inr c.0
  refused-clash f (inl k) = go kept.answer
    where
      go : ((o : Outcome) × (Answers (given_in [] (made_task steps) kept.process) (made_header steps) p.steps (replayed o) × IsLeftByOutcome o p)) ⊎ ShowsAClash (made_deploy steps kept.process) p.steps → ShowsClash steps p.steps
      go (inr c) = play-clash c
      go (inl a) =
          let says = subst (λ x. SaysAnswer x (status.Replay f)) (one_answer_to (made_replay steps p.steps) k.0 (replayed a.0) k.1.1 (answered a.0 a.1.0)) k.1.0 in
          absurd (no-verdict f a.0.verdict says)

  pub is_refused : (f : ReplayFault) → IsSettled (status.Replay f) (made_replay steps p.steps) → IsRefusedPlay steps f
  is_refused f s = record { left = p; play = play; refused = s; clash = refused-clash f s }

  module _ (l : Left) (replay : IsLeftByReplay (made_replay steps p.steps) l) where
    -- the replay makes the steps of the play
    pub same : l.steps ≡ p.steps
    same = (one_reading (made_replay steps p.steps) replay.rows [] replay.process kept.process replay.header (made_header steps) l.steps p.steps replay.read (record { state = play.state; spelt = kept.spelt; log = kept.read })).1.1.1

    replayed-answer : (o : Outcome) → Answers (given_in replay.rows (made_task steps) replay.process) replay.header l.steps (replayed o) → IsAnswerTo (made_replay steps p.steps) (replayed o)
    replayed-answer o a =
        record {
          rows = replay.rows;
          process = replay.process;
          header = replay.header;
          steps = l.steps;
          read = replay.read;
          is = a;
        }

    -- the digests of some replay of its log clash
    replay-clash : Clashes (deploy_under replay.header.limit (given_in replay.rows (made_task steps) replay.process)) l.steps → ShowsClash steps p.steps
    replay-clash c =
        inr (record {
          rows = replay.rows;
          process = replay.process;
          header = replay.header;
          steps = l.steps;
          read = replay.read;
          right = replay.right;
          clash = c;
        })

    alike : AreAlike p l ⊎ ShowsClash steps p.steps
    alike = go kept.answer replay.answer
      where
        go : ((o : Outcome) × (Answers (given_in [] (made_task steps) kept.process) (made_header steps) p.steps (replayed o) × IsLeftByOutcome o p)) ⊎ ShowsAClash (made_deploy steps kept.process) p.steps
            → ((o : Outcome) × (Answers (given_in replay.rows (made_task steps) replay.process) replay.header l.steps (replayed o) × IsLeftByOutcome o l)) ⊎ Clashes (deploy_under replay.header.limit (given_in replay.rows (made_task steps) replay.process)) l.steps
            → AreAlike p l ⊎ ShowsClash steps p.steps
        go (inr c) b = inr (play-clash c)
        go (inl a) (inr c) = inr (replay-clash c)
        go (inl a) (inl b) =
            let e = same-outcome a.0 b.0 (one_answer_to (made_replay steps p.steps) (replayed a.0) (replayed b.0) (answered a.0 a.1.0) (replayed-answer b.0 b.1.0)) in
            inl (alike-by b.0 p l (subst (λ (o : Outcome). IsLeftByOutcome o p) e a.1.1) b.1.1 (play.steps ∙ (ap length (sym same) ∙ sym replay.steps)))

    pub is_left : IsLeftByWorkload steps l
    is_left =
        record {
          played = p;
          play = play;
          same = same;
          replay = subst (λ (ss : List Step). IsLeftByReplay (made_replay steps ss) l) (sym same) replay;
          alike = subst (λ (ss : List Step). AreAlike p l ⊎ ShowsClash steps ss) (sym same) alike;
        }
