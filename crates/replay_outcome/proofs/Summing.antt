-- The sum of steps in the order of the log.
use Rattle.std.proofs.Common.{◌≡◌, ◌<◌, ◌-◌, ◌^◌, ℕ, zero, suc, ◌+◌, min, true, List, [], ◌∷◌, ◌++◌, length, map as each, refl, sym, ap, subst, ◌∙◌, arith, inl, inr, Some, None, append_assoc}
use Rattle.std.specs.Prelude.{◌⊎◌, Option}
use Rattle.std.proofs.Common.{length-append}
use Rattle.std.proofs.lemmas.List.{map-append}
use Rattle.std.proofs.lemmas.List.Sums.{sum_by-append}
use Rattle.calculus.specs.declared.fault.FaultKind.{FaultKind}
use Rattle.calculus.specs.Runs.{Verdict, done, exhausted, faulted, at_fault, step_of_work}
use Rattle.events.specs.Entries.{first_fault}
use Rattle.replays.specs.View.{verdict_of}
use Rattle.hub_scenes.specs.Spaces.{DidStep}
use Rattle.hub_scenes.specs.Closing.{is_did, IsFirstUndone, did_at, in_log_order, did_lines}
use Rattle.replay_outcome.specs.declared.places.Came.{Came}
use Rattle.replay_outcome.specs.declared.sum.Sum.{Sum}
use Rattle.replay_outcome.specs.Settling.{KeptFrom, AreDidBelow, IsSum}
use Rattle.replay_outcome.proofs.Placing.{Kept, keeps-none, keeps-some, not-did, was-did}
use Rattle.replay_hub.specs.Values.{line_items}

-- the first fault, with one more at the end
later-fault : (k : ℕ) (fs : List (Option FaultKind)) (g : Option FaultKind) → first_fault k fs ≡ done → first_fault k (fs ++ g ∷ []) ≡ at_fault (k + length fs) g done
later-fault k [] g h = ap (λ j. at_fault j g done) (omega arith)
later-fault k (None ∷ fs) g h = later-fault (suc k) fs g h ∙ ap (λ j. at_fault j g done) (omega arith)
later-fault k (Some f ∷ fs) g h = absurd (other (step_of_work k) f h)
  where
    other : (i : Option ℕ) (f : FaultKind) → faulted i f ≡ done → ⊥
    other i f e = cc e

first-stays : (k : ℕ) (fs : List (Option FaultKind)) (g : Option FaultKind) → (first_fault k fs ≡ done → ⊥) → first_fault k (fs ++ g ∷ []) ≡ first_fault k fs
first-stays k [] g h = absurd (h refl)
first-stays k (None ∷ fs) g h = first-stays (suc k) fs g h
first-stays k (Some f ∷ fs) g h = refl

-- a verdict is done or not
done-or : (v : Verdict) → (v ≡ done) ⊎ (v ≡ done → ⊥)
done-or done = inl refl
done-or exhausted = inr (λ e. cc e)
done-or (faulted i f) = inr (λ e. cc e)

each-long : {A B : Type 0} (f : A → B) (xs : List A) → length (each f xs) ≡ length xs
each-long f [] = refl
each-long f (x ∷ xs) = ap suc (each-long f xs)

lines-more : (ds : List DidStep) (d : DidStep) → did_lines (ds ++ d ∷ []) ≡ did_lines ds ++ d.line
lines-more [] d = append-none d.line
  where
    append-none : (xs : List ℕ) → xs ++ [] ≡ xs
    append-none [] = refl
    append-none (x ∷ xs) = ap (λ l. x ∷ l) (append-none xs)
lines-more (x ∷ xs) d = ap (λ l. x.line ++ l) (lines-more xs d) ∙ sym (append_assoc x.line (did_lines xs) d.line)

-- one more step is added
module _ (price : ℕ) (fault : Option FaultKind) (ds : List DidStep) (old new : Sum) (s : IsSum price fault ds old) (d : DidStep) (c : Came)
    (p : c.price ≡ d.price) (f : c.fault ≡ d.fault) (l : line_items c.line ≡ d.line) where
  abbrev faults : List (Option FaultKind)
  faults = fault ∷ each (λ d. d.fault) ds

  verdict-more : (verdict_of old.verdict ≡ done → (i : ℕ) → step_of_work i ≡ Some (length ds) → verdict_of new.verdict ≡ at_fault i c.fault done) → ((verdict_of old.verdict ≡ done → ⊥) → new.verdict ≡ old.verdict)
      → verdict_of new.verdict ≡ first_fault 0 (fault ∷ each (λ d. d.fault) (ds ++ d ∷ []))
  verdict-more none some = go (done-or (verdict_of old.verdict)) ∙ sym (ap (λ (fs : List (Option FaultKind)). first_fault 0 (fault ∷ fs)) (map-append (λ (d : DidStep). d.fault) ds (d ∷ [])))
    where
      next : (n m : ℕ) → m ≡ n → suc n ≡ 0 + suc m
      next n m e = omega (arith, e)

      go : (verdict_of old.verdict ≡ done) ⊎ (verdict_of old.verdict ≡ done → ⊥) → verdict_of new.verdict ≡ first_fault 0 (faults ++ d.fault ∷ [])
      go (inl e) =
          none e (suc (length ds)) refl ∙ ap (λ g. at_fault (suc (length ds)) g done) f
          ∙ ap (λ j. at_fault j d.fault done) (next (length ds) (length (each (λ (d : DidStep). d.fault) ds)) (each-long (λ d. d.fault) ds))
          ∙ sym (later-fault 0 faults d.fault (sym s.verdict ∙ e))
      go (inr n) = ap verdict_of (some n) ∙ s.verdict ∙ sym (first-stays 0 faults d.fault (λ e. n (s.verdict ∙ e)))

  pub one-more : new.total ≡ min (old.total + c.price) (2 ^ 64 - 1) → new.lines.items ≡ old.lines.items ++ line_items c.line
      → (verdict_of old.verdict ≡ done → (i : ℕ) → step_of_work i ≡ Some (length ds) → verdict_of new.verdict ≡ at_fault i c.fault done) → ((verdict_of old.verdict ≡ done → ⊥) → new.verdict ≡ old.verdict)
      → IsSum price fault (ds ++ d ∷ []) new
  one-more t m none some = record {
    total = omega (arith, t, p, s.total, sum_by-append (λ (d : DidStep). d.price) ds (d ∷ []));
    verdict = verdict-more none some;
    lines = m ∙ ap (λ x. x ++ line_items c.line) s.lines ∙ ap (λ x. did_lines ds ++ x) l ∙ sym (lines-more ds d);
  }

-- where the sum stands before the step with index i, with what is kept of the rest
pub record Along (price : ℕ) (fault : Option FaultKind) (ds : List DidStep) (i : ℕ) (rest : List (Option Came)) (s : Sum) : Type 0 where
  pub below : AreDidBelow i ds
  pub sum : IsSum price fault (in_log_order i ds) s
  pub long : length (in_log_order i ds) ≡ i
  pub kept : KeptFrom i ds rest

-- the first step that is not done
pub undone : (price : ℕ) (fault : Option FaultKind) (ds : List DidStep) (i : ℕ) (rest : List (Option Came)) (s : Sum) → Along price fault ds i (None ∷ rest) s → IsFirstUndone i ds
undone price fault ds i rest s a = record { undone = not-did i ds (keeps-none (did_at i ds) a.kept.0); least = a.below }

-- one more step that is done
pub one-along : (price : ℕ) (fault : Option FaultKind) (ds : List DidStep) (i : ℕ) (c : Came) (rest : List (Option Came)) (old new : Sum) → Along price fault ds i (Some c ∷ rest) old
    → ((d : DidStep) → c.price ≡ d.price → c.fault ≡ d.fault → line_items c.line ≡ d.line → IsSum price fault (in_log_order i ds ++ d ∷ []) new) → Along price fault ds (i + 1) rest new
one-along price fault ds i c rest old new a add =
    subst (λ j. Along price fault ds j rest new) plus record {
      below = below;
      sum = subst (λ l. IsSum price fault l new) same (add k.it k.price k.fault k.line);
      long = ap length (sym same) ∙ length-append (in_log_order i ds) (k.it ∷ []) ∙ one (length (in_log_order i ds)) i a.long;
      kept = subst (λ j. KeptFrom j ds rest) (sym plus) a.kept.1;
    }
  where
    plus : suc i ≡ i + 1
    plus = omega arith

    one : (m n : ℕ) → m ≡ n → m + 1 ≡ suc n
    one m n e = omega (arith, e)

    k : Kept c (did_at i ds)
    k = keeps-some c (did_at i ds) a.kept.0

    same : in_log_order i ds ++ k.it ∷ [] ≡ in_log_order (suc i) ds
    same = ap (λ l. in_log_order i ds ++ l) (sym k.is)

    below : AreDidBelow (suc i) ds
    below j lt = go (below-or j i lt)
      where
        below-or : (j i : ℕ) → j < suc i → (j < i) ⊎ (j ≡ i)
        below-or j zero lt = inr (omega (arith, lt))
        below-or zero (suc i) lt = inl (omega arith)
        below-or (suc j) (suc i) lt = more (below-or j i (omega (arith, lt)))
          where
            more : (j < i) ⊎ (j ≡ i) → (suc j < suc i) ⊎ (suc j ≡ suc i)
            more (inl l) = inl (omega (arith, l))
            more (inr e) = inr (ap suc e)

        go : (j < i) ⊎ (j ≡ i) → is_did j ds ≡ true
        go (inl l) = a.below j l
        go (inr e) = subst (λ n. is_did n ds ≡ true) (sym e) (was-did i ds k.it [] k.is)
