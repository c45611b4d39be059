-- The uses of an id in a log, by their places.
use Rattle.std.proofs.Common.{◌≡◌, ◌≤◌, ℕ, suc, ◌+◌, Bool, true, false, cond, List, [], ◌∷◌, ◌++◌, length, refl, ap, sym, ◌∙◌, subst, arith, inl, inr}
use Rattle.std.specs.Prelude.{count_by}
use Rattle.std.proofs.lemmas.List.Sums.{sum_by-cons}
use Rattle.calculus.specs.Log.{Step}
use Rattle.calculus.proofs.Members.{Member}
use Rattle.racing_replays.specs.Replaying.{done_steps}
use Rattle.racing_replays.specs.Counted.{names_id, uses, IsUseAt, TurnsAreNextUses}
use Rattle.racing_replays.proofs.Lists.{AreSingle, middle}
use Rattle.racing_replays.proofs.Turns.{uses_are_counted}

uses-from : (x : List ℕ) (j : ℕ) (ss : List Step) (n : ℕ) → Member n (uses x j ss) → j ≤ n
uses-from x j [] n m = absurd m
uses-from x j (s ∷ ss) n m = go (names_id x s) m (uses-from x (suc j) ss n)
  where
    go : (c : Bool) → Member n (cond c (j ∷ uses x (suc j) ss) (uses x (suc j) ss)) → (Member n (uses x (suc j) ss) → suc j ≤ n) → j ≤ n
    go true (inl e) next = omega (arith, e)
    go true (inr i) next = omega (arith, next i)
    go false i next = omega (arith, next i)

-- no index stands twice
uses-single : (x : List ℕ) (j : ℕ) (ss : List Step) → AreSingle (uses x j ss)
uses-single x j [] = tt
uses-single x j (s ∷ ss) = go (names_id x s) (uses-single x (suc j) ss)
  where
    none : Member j (uses x (suc j) ss) → ⊥
    none m = omega (arith, uses-from x (suc j) ss j m)

    go : (c : Bool) → AreSingle (uses x (suc j) ss) → AreSingle (cond c (j ∷ uses x (suc j) ss) (uses x (suc j) ss))
    go true h = (none, h)
    go false h = h

count-cons : (q : Step → Bool) (u : Step) (us : List Step) (c : Bool) → q u ≡ c → count_by q (u ∷ us) ≡ cond c 1 0 + count_by q us
count-cons q u us c e = sum_by-cons (λ y. cond (q y) 1 0) u us ∙ ap (λ d. cond d 1 0 + count_by q us) e

-- an index that stands among uses after so many
record PlacedUse (x : List ℕ) (j n : ℕ) (ss : List Step) (index : ℕ) : Type 0 where
  lower : List ℕ
  later : List ℕ
  is : uses x j ss ≡ lower ++ index ∷ later
  place : length lower ≡ n

-- a step that names an id is a use of it, after as many as there are before the step
uses-split : (x : List ℕ) (j : ℕ) (before : List Step) (s : Step) (after : List Step) → names_id x s ≡ true → PlacedUse x j (count_by (names_id x) before) (before ++ s ∷ after) (j + length before)
uses-split x j [] s after h = record {
  lower = [];
  later = uses x (suc j) after;
  is = ap (λ c. cond c (j ∷ uses x (suc j) after) (uses x (suc j) after)) h ∙ ap (λ n. n ∷ uses x (suc j) after) same;
  place = refl;
}
  where
    same : j ≡ j + 0
    same = omega arith
uses-split x j (u ∷ before) s after h = go (names_id x u) refl (uses-split x (suc j) before s after h)
  where
    one-less : suc j + length before ≡ j + suc (length before)
    one-less = omega arith

    go : (c : Bool) → names_id x u ≡ c → PlacedUse x (suc j) (count_by (names_id x) before) (before ++ s ∷ after) (suc j + length before)
        → PlacedUse x j (count_by (names_id x) (u ∷ before)) (u ∷ before ++ s ∷ after) (j + suc (length before))
    go true e f = record {
      lower = j ∷ f.lower;
      later = f.later;
      is = ap (λ c. cond c (j ∷ uses x (suc j) (before ++ s ∷ after)) (uses x (suc j) (before ++ s ∷ after))) e ∙ ap (λ l. j ∷ l) f.is ∙ ap (λ n. j ∷ f.lower ++ n ∷ f.later) one-less;
      place = omega (arith, f.place, count-cons (names_id x) u before true e);
    }
    go false e f = record {
      lower = f.lower;
      later = f.later;
      is = ap (λ c. cond c (j ∷ uses x (suc j) (before ++ s ∷ after)) (uses x (suc j) (before ++ s ∷ after))) e ∙ f.is ∙ ap (λ n. f.lower ++ n ∷ f.later) one-less;
      place = omega (arith, f.place, count-cons (names_id x) u before false e);
    }

-- one member stands at one place, where none stands twice
same-length : {A : Type 0} (xs ys : List A) (i : A) (us vs : List A) → AreSingle (xs ++ i ∷ us) → xs ++ i ∷ us ≡ ys ++ i ∷ vs → length xs ≡ length ys
same-length [] [] i us vs h e = refl
same-length [] (y ∷ ys) i us vs h e = absurd (h.0 (subst (λ l. Member i l) (sym (tail e)) (middle i ys vs)))
  where
    tail : i ∷ us ≡ y ∷ (ys ++ i ∷ vs) → us ≡ ys ++ i ∷ vs
    tail e = cc
same-length (x ∷ xs) [] i us vs h e = absurd (h.0 (subst (λ z. Member z (xs ++ i ∷ us)) (sym (head e)) (middle i xs us)))
  where
    head : x ∷ (xs ++ i ∷ us) ≡ i ∷ vs → x ≡ i
    head e = cc
same-length (x ∷ xs) (y ∷ ys) i us vs h e = ap suc (same-length xs ys i us vs h.1 (tail e))
  where
    tail : x ∷ (xs ++ i ∷ us) ≡ y ∷ (ys ++ i ∷ vs) → xs ++ i ∷ us ≡ ys ++ i ∷ vs
    tail e = cc

pub turns_are_next_uses : TurnsAreNextUses
turns_are_next_uses deploy w ss r f rs before s after log =
    let c = uses_are_counted deploy w ss r f rs before s after log in
    ((λ h x n. next-one x n (c.0 h x n)), (λ e. c.1 (λ x n. same-count x n (e x n))))
  where
    plain : 0 + length before ≡ length before
    plain = omega arith

    is : (x : List ℕ) (p : PlacedUse x 0 (count_by (names_id x) before) (before ++ s ∷ after) (0 + length before)) → uses x 0 ss ≡ p.lower ++ length before ∷ p.later
    is x p = ap (uses x 0) log ∙ p.is ∙ ap (λ i. p.lower ++ i ∷ p.later) plain

    next-one : (x : List ℕ) → names_id x s ≡ true → count_by (names_id x) (done_steps r.done) ≡ count_by (names_id x) before → IsUseAt x (count_by (names_id x) (done_steps r.done)) ss (length before)
    next-one x n e = let p = uses-split x 0 before s after n in record { lower = p.lower; later = p.later; is = is x p; place = p.place ∙ sym e }

    same-count : (x : List ℕ) → names_id x s ≡ true → IsUseAt x (count_by (names_id x) (done_steps r.done)) ss (length before) → count_by (names_id x) (done_steps r.done) ≡ count_by (names_id x) before
    same-count x n u =
        let p = uses-split x 0 before s after n in
        sym u.place ∙ same-length u.lower p.lower (length before) u.later p.later (subst AreSingle u.is (uses-single x 0 ss)) (sym u.is ∙ is x p) ∙ p.place
