-- What one more entry adds to a tally.
use Rattle.std.proofs.Common.{◌≡◌, ◌<◌, ◌≤◌, ◌^◌, ℕ, suc, ◌+◌, List, [], ◌∷◌, ◌++◌, length, map as each, refl, sym, ap, subst, ◌∙◌, arith, inl, inr, Some, None, append-nil, length-append, All}
use Rattle.std.specs.Prelude.{◌⊎◌, Option, option_map}
use Rattle.std.proofs.lemmas.List.{map-append, length-map}
use Rattle.std.proofs.lemmas.List.Elements.{All-nil, All-cons, All-append}
use Rattle.calculus.specs.declared.fault.FaultKind.{FaultKind}
use Rattle.calculus.specs.Runs.{Verdict, done, exhausted, faulted, at_fault, step_of_work}
use Rattle.event_log.specs.View.{step_of, TakesInRange}
use Rattle.events.specs.Entries.{Making, Entry, steps_in, steps_of, faults_in, faults_of, line_in, lines_of, first_fault}
use Rattle.events.specs.EntryLaws.{AddsUp}
use Rattle.events.proofs.Growing.{one_more_entry_adds_up}
use Rattle.replays.specs.View.{verdict_of}
use Rattle.hub_scenes.specs.Plays.{entries_of}
use Rattle.play_hub.specs.declared.entry.MadeStep.{MadeStep}
use Rattle.play_hub.specs.declared.entry.PlayEntry.{PlayEntry}
use Rattle.play_hub.specs.Values.{making_of, entry_of}
use Rattle.play_hub.specs.Endings.{play_of}
use Rattle.play_outcome.specs.declared.tally.Tally.{Tally}
use Rattle.play_outcome.specs.Tallies.{IsTally}

-- the first fault, with one more at the end
later-fault : (k : ℕ) (fs : List (Option FaultKind)) (g : Option FaultKind) → first_fault k fs ≡ done → first_fault k (fs ++ g ∷ []) ≡ at_fault (k + length fs) g done
later-fault k [] g h = ap (λ j. at_fault j g done) (omega arith)
later-fault k (None ∷ fs) g h = later-fault (suc k) fs g h ∙ ap (λ j. at_fault j g done) (omega arith)
later-fault k (Some f ∷ fs) g h = absurd (other (step_of_work k) f h)
  where
    other : (i : Option ℕ) (f : FaultKind) → faulted i f ≡ done → ⊥
    other i f e = cc e

first-stays : (k : ℕ) (fs : List (Option FaultKind)) (g : Option FaultKind) → (first_fault k fs ≡ done → ⊥) → first_fault k (fs ++ g ∷ []) ≡ first_fault k fs
first-stays k [] g h = absurd (h refl)
first-stays k (None ∷ fs) g h = first-stays (suc k) fs g h
first-stays k (Some f ∷ fs) g h = refl

-- a verdict is done or not
done-or : (v : Verdict) → (v ≡ done) ⊎ (v ≡ done → ⊥)
done-or done = inl refl
done-or exhausted = inr (λ e. cc e)
done-or (faulted i f) = inr (λ e. cc e)

-- the entries of one more
entries-more : (es : List PlayEntry) (e : PlayEntry) → entries_of (play_of (es ++ e ∷ [])) ≡ entries_of (play_of es) ++ (entry_of e).entry ∷ []
entries-more [] e = refl
entries-more (x ∷ es) e = ap (λ l. (entry_of x).entry ∷ l) (entries-more es e)

-- there are as many faults as steps
alike-long : (x : Option Making) → length (faults_in x) ≡ length (steps_in x)
alike-long None = refl
alike-long (Some a) = refl

faults-long : (es : List Entry) → length (faults_of es) ≡ length (steps_of es)
faults-long [] = refl
faults-long (e ∷ es) = omega (arith, length-append (faults_in e.making) (faults_of es), length-append (steps_in e.making) (steps_of es), alike-long e.making, faults-long es)

module _ (fault : Option FaultKind) (es : List PlayEntry) (old : Tally) (t : IsTally fault es old) (e : PlayEntry) where
  abbrev entries : List Entry
  entries = entries_of (play_of es)

  adds : AddsUp entries (entry_of e).entry
  adds = one_more_entry_adds_up entries (entry_of e).entry

  -- an operation that was stored adds nothing
  pub none-more : e.made ≡ None → IsTally fault (es ++ e ∷ []) old
  none-more d = record {
    steps = t.steps ∙ sym (ap steps_of (entries-more es e) ∙ adds.steps ∙ ap (λ (m : Option MadeStep). steps_of entries ++ steps_in (option_map making_of m)) d ∙ append-nil (steps_of entries));
    taken = t.taken;
    verdict = t.verdict ∙ sym (ap (λ (l : List Entry). first_fault 0 (fault ∷ faults_of l)) (entries-more es e)
        ∙ ap (λ (l : List (Option FaultKind)). first_fault 0 (fault ∷ l)) (adds.faults ∙ ap (λ (m : Option MadeStep). faults_of entries ++ faults_in (option_map making_of m)) d ∙ append-nil (faults_of entries)));
    output = t.output ∙ sym (ap lines_of (entries-more es e) ∙ adds.lines ∙ ap (λ (m : Option MadeStep). lines_of entries ++ line_in (option_map making_of m)) d ∙ append-nil (lines_of entries));
  }

  module _ (m : MadeStep) (d : e.made ≡ Some m) (new : Tally) where
    faults-are : faults_of (entries_of (play_of (es ++ e ∷ []))) ≡ faults_of entries ++ m.fault ∷ []
    faults-are = ap faults_of (entries-more es e) ∙ adds.faults ∙ ap (λ (x : Option MadeStep). faults_of entries ++ faults_in (option_map making_of x)) d

    -- as many steps were made as faults told
    long : length (faults_of entries) ≡ length old.steps.items
    long = faults-long entries ∙ ap length (sym t.steps) ∙ length-map old.steps.items step_of

    verdict-more : (verdict_of old.verdict ≡ done → (i : ℕ) → step_of_work i ≡ Some (length old.steps.items) → verdict_of new.verdict ≡ at_fault i m.fault done) → ((verdict_of old.verdict ≡ done → ⊥) → new.verdict ≡ old.verdict)
        → verdict_of new.verdict ≡ first_fault 0 (fault ∷ (faults_of entries ++ m.fault ∷ []))
    verdict-more none some = go (done-or (verdict_of old.verdict))
      where
        next : (n k : ℕ) → k ≡ n → suc n ≡ 0 + suc k
        next n k e = omega (arith, e)

        go : (verdict_of old.verdict ≡ done) ⊎ (verdict_of old.verdict ≡ done → ⊥) → verdict_of new.verdict ≡ first_fault 0 (fault ∷ (faults_of entries ++ m.fault ∷ []))
        go (inl q) =
            none q (suc (length old.steps.items)) refl ∙ ap (λ j. at_fault j m.fault done) (next (length old.steps.items) (length (faults_of entries)) long)
            ∙ sym (later-fault 0 (fault ∷ faults_of entries) m.fault (sym t.verdict ∙ q))
        go (inr n) = ap verdict_of (some n) ∙ t.verdict ∙ sym (first-stays 0 (fault ∷ faults_of entries) m.fault (λ q. n (t.verdict ∙ q)))

    -- a step that was made adds itself
    pub one-more : new.steps.items ≡ old.steps.items ++ m.step ∷ [] → new.output.items ≡ old.output.items ++ m.line.items
        → (verdict_of old.verdict ≡ done → (i : ℕ) → step_of_work i ≡ Some (length old.steps.items) → verdict_of new.verdict ≡ at_fault i m.fault done) → ((verdict_of old.verdict ≡ done → ⊥) → new.verdict ≡ old.verdict)
        → IsTally fault (es ++ e ∷ []) new
    one-more s l none some = record {
      steps = ap (each step_of) s ∙ map-append step_of old.steps.items (m.step ∷ []) ∙ ap (λ z. z ++ step_of m.step ∷ []) t.steps
          ∙ sym (ap steps_of (entries-more es e) ∙ adds.steps ∙ ap (λ (x : Option MadeStep). steps_of entries ++ steps_in (option_map making_of x)) d);
      taken = subst (All TakesInRange) (sym s) (All-append TakesInRange old.steps.items (m.step ∷ []) t.taken (All-cons TakesInRange m.step [] m.range (All-nil TakesInRange)));
      verdict = verdict-more none some ∙ ap (λ (z : List (Option FaultKind)). first_fault 0 (fault ∷ z)) (sym faults-are);
      output = l ∙ ap (λ z. z ++ m.line.items) t.output ∙ sym (ap lines_of (entries-more es e) ∙ adds.lines ∙ ap (λ (x : Option MadeStep). lines_of entries ++ line_in (option_map making_of x)) d);
    }

-- before the first entry
pub first-tally : (fault : Option FaultKind) (t : Tally) → t.steps.items ≡ [] → t.output.items ≡ [] → verdict_of t.verdict ≡ at_fault 0 fault done → IsTally fault [] t
first-tally fault t s l v = record { steps = ap (each step_of) s; taken = subst (All TakesInRange) (sym s) (All-nil TakesInRange); verdict = v; output = l }

-- entries before others make no more steps than all
steps-split : (xs ys : List PlayEntry) → length (steps_of (entries_of (play_of xs))) ≤ length (steps_of (entries_of (play_of (xs ++ ys))))
steps-split [] ys = omega arith
steps-split (x ∷ xs) ys = omega (arith, length-append (steps_in (entry_of x).entry.making) (steps_of (entries_of (play_of xs))), length-append (steps_in (entry_of x).entry.making) (steps_of (entries_of (play_of (xs ++ ys)))), steps-split xs ys)

pub few-so-far : (fault : Option FaultKind) (xs ys es : List PlayEntry) (t : Tally) → xs ++ ys ≡ es → IsTally fault xs t → length (steps_of (entries_of (play_of es))) < 2 ^ 32 → length t.steps.items < 2 ^ 32
few-so-far fault xs ys es t e h few = omega (arith, few, ap (λ (l : List PlayEntry). length (steps_of (entries_of (play_of l)))) e, steps-split xs ys, ap length h.steps, length-map t.steps.items step_of)
