-- What a replay came to.
use Rattle.std.proofs.Common.{◌≡◌, ◌≢◌, ◌∙◌, ◌⊎◌, inl, inr, ℕ, true, List, [], length, refl, sym, ap, subst, Result, Ok, Err, Option, Some, None, IfSome}
use Rattle.std.specs.Prelude.{IsErrAnd, IsPermutation, ⊤}
use Rattle.std.proofs.lemmas.List.{length-map}
use Rattle.calculus.specs.Log.{Step, Header}
use Rattle.calculus.specs.Root.{root}
use Rattle.calculus.specs.Rows.{Row}
use Rattle.calculus.specs.Runs.{Verdict, done, exhausted, faulted, verdict}
use Rattle.event_log.specs.View.{step_of}
use Rattle.replays.specs.Replays.{Given, Refusal, Outcome, Answer, refused, replayed, header_refusal, deploy_under, output_of, Answers, by_header, by_step, by_rest, by_end}
use Rattle.events.specs.States.{state_text}
use Rattle.events.proofs.Groups.{root_ignores_order, text_ignores_order}
use Rattle.replays.specs.View.{verdict_of}
use Rattle.replays.specs.declared.verdict.Verdict.{Verdict as Ending}
use Rattle.replays.specs.declared.verdict.Verdict.TheVariants as ending
use Rattle.replays.specs.Refusals.{is_of_header, refusal_of}
use Rattle.replays.specs.declared.fault.ReplayFault.{ReplayFault}
use Rattle.replays.specs.declared.fault.ReplayFault.TheVariants.{WrongBase, WrongSource, WrongPrices, WrongLimit, NoRun, Reducible, NoMemory}
use Rattle.replay_answers.specs.Answers.{IsReplayed, IsAnswered}
use Rattle.replay_answers.specs.declared.replayed.Replayed.{Replayed}
use Rattle.run_inputs.specs.Bases.{IsStateOf}
use Rattle.run_inputs.specs.declared.acceptance.ReplayInputs.{ReplayInputs}
use Rattle.run_status.specs.Statuses.{ReplayStatusOf}
use Rattle.run_status.specs.declared.status.Status.{Status}
use Rattle.recorded_runs.specs.Runs.{Left, printed}
use Rattle.recorded_runs.proofs.Running.{silent}
use Rattle.recorded_runs.specs.Replaying.{IsLeftByOutcome, IsLeftByAnswer, IsOfSteps}
use Rattle.recorded_runs.specs.ReplayPlans.{given_of, header_in, steps_in, ClashIn, IsReplayStop, IsReplayPlan, IsPlanned}
use Rattle.recorded_runs.specs.declared.replaying.ReplayPlan.{ReplayPlan}

-- an outcome that is not done has no output
abbrev IsQuiet : Answer → Type 0
IsQuiet (refused r) = ⊤
IsQuiet (replayed o) = o.verdict ≢ done → o.output ≡ []

no-output : (v : Verdict) (output : List ℕ) → v ≢ done → output_of v output ≡ []
no-output done output n = absurd (n refl)
no-output exhausted output n = refl
no-output (faulted s k) output n = refl

quiet : (g : Given) (h : Header) (ss : List Step) (x : Answer) → Answers g h ss x → IsQuiet x
quiet g h ss x (by_header e) = tt
quiet g h ss x (by_step e s) = tt
quiet g h ss x (by_rest e l d s) = tt
quiet g h ss x (by_end {a} e l d) = no-output (verdict (deploy_under h.limit g).prices (deploy_under h.limit g).limit a) a.output

-- what is printed of a replay is the output of its outcome
printed-is : (v : Ending) (w : Verdict) (out made : List ℕ) → w ≡ verdict_of v → made ≡ out → (w ≢ done → made ≡ []) → printed (verdict_of v) out ≡ made
printed-is ending.Done w out made e m q = sym m
printed-is ending.Exhausted w out made e m q = sym (q (λ d. other (sym e ∙ d)))
  where
    other : exhausted ≡ done → ⊥
    other k = cc
printed-is (ending.Faulted step kind) w out made e m q = sym (q (λ d. other (sym e ∙ d)))
  where
    other : faulted step kind ≡ done → ⊥
    other k = cc

-- the root and the text of the rows of an outcome
module _ (rows made base : List Row) (digest text : List ℕ) where
  outcome-rows : (v : Ending) (w : Verdict) → w ≡ verdict_of v → (w ≡ done → IsPermutation rows made) → (w ≢ done → made ≡ base)
      → (v ≡ ending.Done → (digest ≡ root rows) × (text ≡ state_text rows)) → (v ≢ ending.Done → (digest ≡ root base) × (text ≡ state_text base))
      → (digest ≡ root made) × (text ≡ state_text made)
  outcome-rows ending.Done w e m n d o = ((d refl).0 ∙ root_ignores_order _ _ (m e), (d refl).1 ∙ text_ignores_order _ _ (m e))
  outcome-rows ending.Exhausted w e m n d o = let k = n (λ q. other (sym e ∙ q)) in ((o (λ q. cc)).0 ∙ ap root (sym k), (o (λ q. cc)).1 ∙ ap state_text (sym k))
    where
      other : exhausted ≡ done → ⊥
      other k = cc
  outcome-rows (ending.Faulted step kind) w e m n d o = let k = n (λ q. other (sym e ∙ q)) in ((o (λ q. cc)).0 ∙ ap root (sym k), (o (λ q. cc)).1 ∙ ap state_text (sym k))
    where
      other : faulted step kind ≡ done → ⊥
      other k = cc

no-refusal-is : (x : Refusal) → None ≡ Some x → ⊥
no-refusal-is x e = cc

-- a refusal under a right header is one of the steps
of-steps : (f : ReplayFault) (x : Refusal) → refusal_of f ≡ Some x → (is_of_header f ≡ true → None ≡ refusal_of f) → IsOfSteps f
of-steps (WrongBase log state) x e n = absurd (no-refusal-is _ (n refl))
of-steps (WrongSource log given) x e n = absurd (no-refusal-is _ (n refl))
of-steps (WrongPrices log given) x e n = absurd (no-refusal-is _ (n refl))
of-steps (WrongLimit log most) x e n = absurd (no-refusal-is _ (n refl))
of-steps (NoRun step) x e n = tt
of-steps (Reducible cont taken) x e n = tt
of-steps NoMemory x e n = absurd (no-refusal-is x e)

module _ (rows : List Row) (r : ReplayInputs) (state : IsStateOf r.inputs.base.text.items rows) (result : Result Replayed ReplayFault)
    (header : (x : Refusal) → header_refusal (given_of rows r) (header_in r) ≡ Some x → IsErrAnd result (λ e. refusal_of e ≡ Some x))
    (answered : IsAnswered (given_of rows r) (header_in r) (steps_in r) result ⊎ ClashIn rows r) where
  module _ (f : ReplayFault) (is : result ≡ Err f) (named : is_of_header f ≡ true → header_refusal (given_of rows r) (header_in r) ≡ refusal_of f) where
    answer-of : (x : Refusal) → refusal_of f ≡ Some x → (o : Option Refusal) → header_refusal (given_of rows r) (header_in r) ≡ o
        → Answers (given_of rows r) (header_in r) (steps_in r) (refused x) ⊎ ((header_refusal (given_of rows r) (header_in r) ≡ None) × (ClashIn rows r × IsOfSteps f))
    answer-of x e None h = go answered
      where
        go : IsAnswered (given_of rows r) (header_in r) (steps_in r) result ⊎ ClashIn rows r → Answers (given_of rows r) (header_in r) (steps_in r) (refused x) ⊎ ((header_refusal (given_of rows r) (header_in r) ≡ None) × (ClashIn rows r × IsOfSteps f))
        go (inl a) =
            let b = subst (λ (v : Result Replayed ReplayFault). IsAnswered (given_of rows r) (header_in r) (steps_in r) v) is a in
            inl (subst (λ (o : Option Refusal). IfSome o (λ y. Answers (given_of rows r) (header_in r) (steps_in r) (refused y))) e b)
        go (inr c) = inr (h, (c, of-steps f x e (λ k. sym h ∙ named k)))
    answer-of x e (Some y) h =
        let same : refusal_of f ≡ Some y = subst (λ (v : Result Replayed ReplayFault). IsErrAnd v (λ k. refusal_of k ≡ Some y)) is (header y h) in
        inl (by_header (h ∙ (sym same ∙ e)))

    -- the status of a log that is refused
    pub replay_stop : (o : Option Refusal) → refusal_of f ≡ o → (s : Status) → ReplayStatusOf f o s → IsReplayStop rows r s
    replay_stop None e s h = subst (IsReplayStop rows r) (sym h) tt
    replay_stop (Some x) e s h = subst (IsReplayStop rows r) (sym h) (record { refusal = x; is = e; answer = answer-of x e (header_refusal (given_of rows r) (header_in r)) refl })

  -- what is made of what the log's replay came to
  pub replay_plan : (x : Replayed) → result ≡ Ok x → (p : ReplayPlan) → IsPlanned r.inputs.base.text.items (root rows) (length r.log.steps.items) x p → IsReplayPlan rows r p
  replay_plan x is p planned =
      record {
        left = left;
        steps_are = refl;
        right = right;
        answer = go answered;
        steps = sym (length-map r.log.steps.items step_of);
        old = λ n. (planned.old n).1;
        silent = silent x.verdict x.output.items;
        next = refl;
        bytes = planned.bytes;
        line = planned.line;
        verdict = planned.verdict;
      }
    where
      left : Left
      left = record { steps = steps_in r; next = p.next.items; output = printed (verdict_of x.verdict) x.output.items; report = record { verdict = x.verdict; cost = x.cost; root = planned.digest; steps = length r.log.steps.items } }

      no-refusal : (o : Option Refusal) → header_refusal (given_of rows r) (header_in r) ≡ o → header_refusal (given_of rows r) (header_in r) ≡ None
      no-refusal None h = h
      no-refusal (Some y) h = absurd (subst (λ (v : Result Replayed ReplayFault). IsErrAnd v (λ k. refusal_of k ≡ Some y)) is (header y h))

      right : header_refusal (given_of rows r) (header_in r) ≡ None
      right = no-refusal (header_refusal (given_of rows r) (header_in r)) refl

      outcome : IsReplayed (given_of rows r) (header_in r) (steps_in r) x → (o : Outcome) × (Answers (given_of rows r) (header_in r) (steps_in r) (replayed o) × IsLeftByOutcome o left)
      outcome a =
          let ends =
          outcome-rows x.rows.items a.outcome.rows rows planned.digest p.next.items x.verdict a.outcome.verdict a.verdict_is a.left (λ n. (a.lost n).0)
          planned.done (λ n. ((planned.old n).0, (planned.old n).1 ∙ state.text)) in (
            a.outcome,
            (
              a.answer,
              record {
                verdict_is = sym a.verdict_is;
                cost_is = sym a.cost_is;
                root_is = ends.0;
                next_is = ends.1;
                output_is = printed-is x.verdict a.outcome.verdict x.output.items a.outcome.output a.verdict_is a.output_is (quiet (given_of rows r) (header_in r) (steps_in r) (replayed a.outcome) a.answer);
              },
            ),
          )

      go : IsAnswered (given_of rows r) (header_in r) (steps_in r) result ⊎ ClashIn rows r → IsLeftByAnswer (given_of rows r) (header_in r) left
      go (inl a) = inl (outcome (subst (λ (v : Result Replayed ReplayFault). IsAnswered (given_of rows r) (header_in r) (steps_in r) v) is a))
      go (inr c) = inr c
