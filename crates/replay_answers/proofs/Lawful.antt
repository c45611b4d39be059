-- Each log has one answer, so all results that give it say the same.
use Rattle.std.proofs.Common.{◌≡◌, List, [], refl, sym, ap, ◌∙◌, subst}
use Rattle.std.specs.Prelude.{◌≢◌, Some, Result, Ok, Err, IsPermutation}
use Rattle.calculus.proofs.Permutations.{join, moved_so, unmoved}
use Rattle.calculus.specs.Form.{IsClosed}
use Rattle.calculus.specs.Log.{Header, Step}
use Rattle.calculus.specs.Rows.{Row}
use Rattle.calculus.specs.Runs.{Verdict, done, exhausted, faulted}
use Rattle.process_laws.specs.ClosedRowLaws.{AreClosedRows}
use Rattle.replays.specs.Replays.{Given, Answer, Answers, Outcome, Refusal, refused, replayed}
use Rattle.replays.proofs.Logs.{each_log_is_answered}
use Rattle.replay_answers.specs.Answers.{IsAnswered, IsReplayed}
use Rattle.replay_answers.specs.Laws.{AnswersSaySame, IsTold, SaySame}
use Rattle.replays.specs.Refusals.{refusal_of}
use Rattle.replays.specs.declared.fault.ReplayFault.{ReplayFault}
use Rattle.replays.specs.declared.fault.ReplayFault.TheVariants.{WrongBase, WrongSource, WrongPrices, WrongLimit, NoRun, Reducible, NoMemory}
use Rattle.replay_answers.specs.declared.replayed.Replayed.{Replayed}

-- a run is done or it is not
done-or-not : (v : Verdict) (A : Type 0) → (v ≡ done → A) → (v ≢ done → A) → A
done-or-not done A f g = f refl
done-or-not exhausted A f g = g (λ e. cc)
done-or-not (faulted i k) A f g = g (λ e. cc)

module _ (g : Given) (h : Header) (ss : List Step) (closed : AreClosedRows g.rows) (is : IsClosed g.process) where
  one : (a b : Answer) → Answers g h ss a → Answers g h ss b → a ≡ b
  one a b x y = let e = each_log_is_answered g h ss closed is in sym (e.2 a x) ∙ e.2 b y

  same-outcome : (o p : Outcome) → replayed o ≡ replayed p → o ≡ p
  same-outcome o p e = cc

  both-replayed : (r q : Replayed) → IsReplayed g h ss r → IsReplayed g h ss q → SaySame (Ok r) (Ok q)
  both-replayed r q x y =
      let e : x.outcome ≡ y.outcome = same-outcome x.outcome y.outcome (one (replayed x.outcome) (replayed y.outcome) x.answer y.answer) in
      let rows : IsPermutation r.rows.items q.rows.items =
      done-or-not x.outcome.verdict (IsPermutation r.rows.items q.rows.items)
      (λ d. join (x.left d) (subst (λ (o : Outcome). IsPermutation o.rows q.rows.items) (sym e) (moved_so (y.left (ap (λ (o : Outcome). o.verdict) (sym e) ∙ d)))))
      (λ n. subst (λ (l : List Row). IsPermutation l q.rows.items) (sym (x.lost n).1) (subst (IsPermutation []) (sym (y.lost (λ d. n (ap (λ (o : Outcome). o.verdict) e ∙ d))).1) (unmoved []))) in (
        sym x.verdict_is ∙ ap (λ (o : Outcome). o.verdict) e ∙ y.verdict_is,
        sym x.cost_is ∙ ap (λ (o : Outcome). o.cost) e ∙ y.cost_is,
        sym x.output_is ∙ ap (λ (o : Outcome). o.output) e ∙ y.output_is,
        rows,
      )

  -- the refusal of a fault, where memory did not run out
  refusal-of : (e : ReplayFault) → IsTold (Err e) → IsAnswered g h ss (Err e) → (x : Refusal) × (refusal_of e ≡ Some x) × Answers g h ss (refused x)
  refusal-of (WrongBase log state) t a = (_, refl, a)
  refusal-of (WrongSource log given) t a = (_, refl, a)
  refusal-of (WrongPrices log given) t a = (_, refl, a)
  refusal-of (WrongLimit log most) t a = (_, refl, a)
  refusal-of (NoRun step) t a = (_, refl, a)
  refusal-of (Reducible cont taken) t a = (_, refl, a)
  refusal-of NoMemory t a = absurd t

  other : (x : Refusal) (o : Outcome) → refused x ≡ replayed o → ⊥
  other x o e = cc

  same-refusal : (x y : Refusal) → refused x ≡ refused y → x ≡ y
  same-refusal x y e = cc

  say-same : (r q : Result Replayed ReplayFault) → IsTold r → IsTold q → IsAnswered g h ss r → IsAnswered g h ss q → SaySame r q
  say-same (Ok r) (Ok q) t u x y = both-replayed r q x y
  say-same (Ok r) (Err f) t u x y = let b = refusal-of f u y in absurd (other b.0 x.outcome (one (refused b.0) (replayed x.outcome) b.2 x.answer))
  say-same (Err e) (Ok q) t u x y = let b = refusal-of e t x in absurd (other b.0 y.outcome (one (refused b.0) (replayed y.outcome) b.2 y.answer))
  say-same (Err e) (Err f) t u x y =
      let a = refusal-of e t x in
      let b = refusal-of f u y in
      a.1 ∙ ap Some (same-refusal a.0 b.0 (one (refused a.0) (refused b.0) a.2 b.2)) ∙ sym b.1

pub answers_say_same : AnswersSaySame
answers_say_same g h ss closed is r q t u x y = say-same g h ss closed is r q t u x y
