-- The uses of an id in a log have places.
use Rattle.std.proofs.Common.{◌≡◌, ◌≤◌, ◌<◌, ℕ, zero, suc, ◌+◌, Bool, true, false, cond, ◌&&◌, List, [], ◌∷◌, ◌++◌, length, refl, ap, sym, ◌∙◌, subst, arith, Some}
use Rattle.std.specs.Prelude.{leb, count_by, slice_get}
use Rattle.std.proofs.lemmas.Bool.{le-leb, leb-true}
use Rattle.std.proofs.lemmas.List.Sums.{sum_by-cons}
use Rattle.calculus.specs.Log.{Step}
use Rattle.racing_replays.specs.Racing.{next_use}
use Rattle.racing_replays.specs.Counted.{names_id, uses}
use Rattle.hub_scenes.specs.Showing.{one_or_none, use_at}

module _ (x : List ℕ) where
  abbrev count : List Step → ℕ
  count us = count_by (names_id x) us

  count-one : (u : Step) (us : List Step) → names_id x u ≡ true → count (u ∷ us) ≡ suc (count us)
  count-one u us e = omega (arith, sum_by-cons (λ v. cond (names_id x v) 1 0) u us, ap {B = ℕ} (λ c. cond c 1 0) e)

  count-none : (u : Step) (us : List Step) → names_id x u ≡ false → count (u ∷ us) ≡ count us
  count-none u us e = omega (arith, sum_by-cons (λ v. cond (names_id x v) 1 0) u us, ap {B = ℕ} (λ c. cond c 1 0) e)

  -- where the search begins no later than the list, it finds the first use
  first-from : (i j : ℕ) (ss : List Step) → i ≤ j → next_use x i j ss ≡ one_or_none (slice_get (uses x j ss) 0)
  first-from i j [] h = refl
  first-from i j (s ∷ ss) h = ap (λ b. cond (b && names_id x s) (j ∷ []) (next_use x i (suc j) ss)) (le-leb i j h) ∙ go (names_id x s) (first-from i (suc j) ss (omega (arith, h)))
    where
      go : (b : Bool) → next_use x i (suc j) ss ≡ one_or_none (slice_get (uses x (suc j) ss) 0) → cond b (j ∷ []) (next_use x i (suc j) ss) ≡ one_or_none (slice_get (cond b (j ∷ uses x (suc j) ss) (uses x (suc j) ss)) 0)
      go true e = refl
      go false e = e

  not-yet : (i j : ℕ) → j < i → leb i j ≡ false
  not-yet i j h = go (leb i j) refl
    where
      go : (b : Bool) → leb i j ≡ b → b ≡ false
      go false e = refl
      go true e = absurd (omega (arith, h, leb-true i j e))

  next-at : (j : ℕ) (before : List Step) (s : Step) (after : List Step) → names_id x s ≡ true → (i : ℕ) → i ≡ suc (j + length before) → next_use x i j (before ++ s ∷ after) ≡ one_or_none (slice_get (uses x j (before ++ s ∷ after)) (suc (count before)))
  next-at j [] s after n i e =
      ap (λ b. cond (b && names_id x s) (j ∷ []) (next_use x i (suc j) after)) (not-yet i j (omega (arith, e))) ∙ first-from i (suc j) after (omega (arith, e))
      ∙ sym (ap (λ b. one_or_none (slice_get (cond b (j ∷ uses x (suc j) after) (uses x (suc j) after)) 1)) n)
  next-at j (u ∷ before) s after n i e =
      ap (λ b. cond (b && names_id x u) (j ∷ []) (next_use x i (suc j) (before ++ s ∷ after))) (not-yet i j (omega (arith, e))) ∙ next-at (suc j) before s after n i (omega (arith, e)) ∙ go (names_id x u) refl
    where
      go : (b : Bool) → names_id x u ≡ b → one_or_none (slice_get (uses x (suc j) (before ++ s ∷ after)) (suc (count before)))
          ≡ one_or_none (slice_get (cond b (j ∷ uses x (suc j) (before ++ s ∷ after)) (uses x (suc j) (before ++ s ∷ after))) (suc (count (u ∷ before))))
      go true h = sym (ap (λ c. one_or_none (slice_get (j ∷ uses x (suc j) (before ++ s ∷ after)) (suc c))) (count-one u before h))
      go false h = sym (ap (λ c. one_or_none (slice_get (uses x (suc j) (before ++ s ∷ after)) (suc c))) (count-none u before h))

  at-place : (j : ℕ) (before : List Step) (s : Step) (after : List Step) → names_id x s ≡ true → slice_get (uses x j (before ++ s ∷ after)) (count before) ≡ Some (j + length before)
  at-place j [] s after n = ap (λ b. slice_get (cond b (j ∷ uses x (suc j) after) (uses x (suc j) after)) 0) n ∙ ap (λ m. Some m) plain
    where
      plain : j ≡ j + 0
      plain = omega arith
  at-place j (u ∷ before) s after n = go (names_id x u) refl (at-place (suc j) before s after n)
    where
      same : suc j + length before ≡ j + suc (length before)
      same = omega arith

      go : (b : Bool) → names_id x u ≡ b → slice_get (uses x (suc j) (before ++ s ∷ after)) (count before) ≡ Some (suc j + length before)
          → slice_get (cond b (j ∷ uses x (suc j) (before ++ s ∷ after)) (uses x (suc j) (before ++ s ∷ after))) (count (u ∷ before)) ≡ Some (j + suc (length before))
      go true h e = ap (slice_get (j ∷ uses x (suc j) (before ++ s ∷ after))) (count-one u before h) ∙ e ∙ ap (λ m. Some m) same
      go false h e = ap (slice_get (uses x (suc j) (before ++ s ∷ after))) (count-none u before h) ∙ e ∙ ap (λ m. Some m) same

  -- uses are from the first index on, and ascend
  from-first : (j : ℕ) (ss : List Step) (n i : ℕ) → slice_get (uses x j ss) n ≡ Some i → j ≤ i
  from-first j [] n i e = cc
  from-first j (s ∷ ss) n i e = go (names_id x s) n e (λ m f. from-first (suc j) ss m i f)
    where
      go : (b : Bool) (n : ℕ) → slice_get (cond b (j ∷ uses x (suc j) ss) (uses x (suc j) ss)) n ≡ Some i → ((m : ℕ) → slice_get (uses x (suc j) ss) m ≡ Some i → suc j ≤ i) → j ≤ i
      go true zero e next = let f : j ≡ i = cc e in omega (arith, f)
      go true (suc n) e next = omega (arith, next n e)
      go false n e next = omega (arith, next n e)

  one-place : (j : ℕ) (ss : List Step) (n m i : ℕ) → slice_get (uses x j ss) n ≡ Some i → slice_get (uses x j ss) m ≡ Some i → n ≡ m
  one-place j [] n m i e f = cc
  one-place j (s ∷ ss) n m i e f = go (names_id x s) n m e f (λ a b. one-place (suc j) ss a b i)
    where
      no : (a : ℕ) → slice_get (uses x (suc j) ss) a ≡ Some i → j ≡ i → ⊥
      no a h k = omega (arith, from-first (suc j) ss a i h, k)

      go : (b : Bool) (n m : ℕ) → slice_get (cond b (j ∷ uses x (suc j) ss) (uses x (suc j) ss)) n ≡ Some i → slice_get (cond b (j ∷ uses x (suc j) ss) (uses x (suc j) ss)) m ≡ Some i
          → ((a c : ℕ) → slice_get (uses x (suc j) ss) a ≡ Some i → slice_get (uses x (suc j) ss) c ≡ Some i → a ≡ c) → n ≡ m
      go true zero zero e f next = refl
      go true zero (suc m) e f next = absurd (no m f (cc e))
      go true (suc n) zero e f next = absurd (no n e (cc f))
      go true (suc n) (suc m) e f next = ap suc (next n m e f)
      go false n m e f next = next n m e f

-- the first use
pub first-use : (x : List ℕ) (ss : List Step) → next_use x 0 0 ss ≡ use_at ss x 0
first-use x ss = first-from x 0 0 ss (omega arith)

module _ (x : List ℕ) (ss before : List Step) (s : Step) (after : List Step) (log : ss ≡ before ++ s ∷ after) (n : names_id x s ≡ true) where
  plain : (l : List Step) → length l ≡ 0 + length l
  plain l = omega arith

  -- a step that names an id is its use at the place of how many steps before name it
  pub its-place : slice_get (uses x 0 ss) (count_by (names_id x) before) ≡ Some (length before)
  its-place = subst (λ l. slice_get (uses x 0 l) (count_by (names_id x) before) ≡ Some (length before)) (sym log) (at-place x 0 before s after n ∙ ap (λ m. Some m) (sym (plain before)))

  -- and at no other
  pub one-count : (m : ℕ) → slice_get (uses x 0 ss) m ≡ Some (length before) → m ≡ count_by (names_id x) before
  one-count m e = one-place x 0 ss m (count_by (names_id x) before) (length before) e its-place

  -- the next use is that at the next place
  pub its-next : next_use x (suc (length before)) 0 ss ≡ use_at ss x (suc (count_by (names_id x) before))
  its-next = subst (λ l. next_use x (suc (length before)) 0 l ≡ use_at l x (suc (count_by (names_id x) before))) (sym log) (next-at x 0 before s after n (suc (length before)) (ap suc (plain before)))
