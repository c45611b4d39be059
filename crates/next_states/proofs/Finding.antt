-- Which groups a walk in the order of codes finds.
use Rattle.std.proofs.Common.{◌≡◌, ℕ, ◌+◌, Bool, true, false, cond, ◌||◌, List, [], ◌∷◌, ◌++◌, map as each, refl, ap, sym, ◌∙◌, subst, arith, append_assoc, inl, inr}
use Rattle.std.specs.Prelude.{◌⊎◌, All, Option, Some, None, IfSome}
use Rattle.std.specs.Borrow.{Bor}
use Rattle.std.specs.Str.{bytes_eq}
use Rattle.std.proofs.lemmas.List.Elements.{All-head, All-tail}
use Rattle.calculus.specs.Order.{up_to, placed, sorted, IsAscending, IsBelowFirst}
use Rattle.calculus.specs.Rows.{Row, row_code}
use Rattle.calculus.specs.Steps.{is_one_of}
use Rattle.calculus.proofs.Ordered.{up_to_both, up_to_trans}
use Rattle.calculus.proofs.Sorting.{by_place}
use Rattle.events.proofs.Groups.{same, equal}
use Rattle.checkpoint.proofs.Adding.{up_to-self}
use Rattle.checkpoint.proofs.Apart.{unequal}
use Rattle.next_states.specs.Pairs.{Pair, pair_of, codes_in, first_code, seconds, times, held, IsChanged}
use Rattle.next_states.specs.Walks.{pairs_left, Has, Finds, Stands, row_of, IsCoded}
use Rattle.next_states.specs.declared.changed.Changed.{Changed}
use Rattle.next_states.specs.declared.left.Left.{Left}
use Rattle.next_states.specs.declared.walk.Coded.{Coded}
use Rattle.next_states.specs.declared.walk.Walk.{Walk}
use Rattle.next_states.proofs.Pairs.{codes-append}

no-truth : false ≡ true → ⊥
no-truth e = cc

-- how often a code stands among codes that are put in order
times-placed : (c x : List ℕ) (xs : List (List ℕ)) → times c (placed x xs) ≡ times c (x ∷ xs)
unfolding placed
times-placed c x [] = refl
times-placed c x (y ∷ ys) = by_place x y ys (λ zs. times c zs ≡ times c (x ∷ y ∷ ys)) refl (ap (λ n. cond (bytes_eq c y) 1 0 + n) (times-placed c x ys) ∙ omega arith)

times-sorted : (c : List ℕ) (xs : List (List ℕ)) → times c (sorted xs) ≡ times c xs
unfolding sorted
times-sorted c [] = refl
times-sorted c (x ∷ xs) = times-placed c x (sorted xs) ∙ ap (λ n. cond (bytes_eq c x) 1 0 + n) (times-sorted c xs)

times-append : (c : List ℕ) (xs ys : List (List ℕ)) → times c (xs ++ ys) ≡ times c xs + times c ys
times-append c [] ys = omega arith
times-append c (x ∷ xs) ys = ap (λ n. cond (bytes_eq c x) 1 0 + n) (times-append c xs ys) ∙ omega arith

-- groups that have a code more or less often are unlike
changed-by : (ps qs : List Pair) (k c : List ℕ) → (held ps k c ≡ held qs k c → ⊥) → IsChanged ps qs k
changed-by ps qs k c apart e = apart (sym (times-sorted c (codes_in ps k)) ∙ ap (times c) e ∙ times-sorted c (codes_in qs k))

held-append : (ps qs : List Pair) (k c : List ℕ) → held (ps ++ qs) k c ≡ held ps k c + held qs k c
held-append ps qs k c = ap (times c) (codes-append ps qs k) ∙ times-append c (codes_in ps k) (codes_in qs k)

-- one pair, and others behind it
abbrev one : Pair → List ℕ → List ℕ → ℕ
one p k c = held (p ∷ []) k c

held-first : (p : Pair) (ps : List Pair) (k c : List ℕ) → held (p ∷ ps) k c ≡ one p k c + held ps k c
held-first p ps k c = held-append (p ∷ []) ps k c

one-self : (p : Pair) → one p p.0 p.1 ≡ 1
one-self p = ap (λ b. times p.1 (cond b (p.1 ∷ []) [])) (equal p.0 p.0 refl) ∙ ap (λ b. cond b 1 0 + 0) (equal p.1 p.1 refl)

one-other : (p : Pair) (k c : List ℕ) → bytes_eq c p.1 ≡ false → one p k c ≡ 0
one-other p k c e = go (bytes_eq k p.0)
  where
    go : (b : Bool) → times c (cond b (p.1 ∷ []) []) ≡ 0
    go true = ap (λ b. cond b 1 0 + 0) e
    go false = refl

-- a code is none of these
abbrev pub IsNoneOf : List ℕ → List (List ℕ) → Type 0
IsNoneOf c cs = (x : List ℕ) → is_one_of x cs ≡ true → bytes_eq c x ≡ false

first-one : (x : List ℕ) (xs : List (List ℕ)) → is_one_of x (x ∷ xs) ≡ true
first-one x xs = ap (λ b. b || is_one_of x xs) (equal x x refl)

later-one : (x y : List ℕ) (ys : List (List ℕ)) → is_one_of x ys ≡ true → is_one_of x (y ∷ ys) ≡ true
later-one x y ys e = go (bytes_eq x y)
  where
    go : (b : Bool) → (b || is_one_of x ys) ≡ true
    go true = refl
    go false = e

held-none : (ps : List Pair) (k c : List ℕ) → IsNoneOf c (seconds ps) → held ps k c ≡ 0
held-none [] k c n = refl
held-none (p ∷ ps) k c n = held-first p ps k c ∙ omega (arith, one-other p k c (n p.1 (first-one p.1 (seconds ps))), held-none ps k c (λ x m. n x (later-one x p.1 (seconds ps) m)))

-- the first of ascending codes is no greater than any
least : (y : List ℕ) (ys : List (List ℕ)) (z : List ℕ) → IsAscending (y ∷ ys) → is_one_of z (y ∷ ys) ≡ true → up_to y z ≡ true
least y [] z a m = go (bytes_eq z y) refl m
  where
    go : (b : Bool) → bytes_eq z y ≡ b → (b || false) ≡ true → up_to y z ≡ true
    go true e f = subst (λ x. up_to y x ≡ true) (sym (same z y e)) (up_to-self y)
    go false e f = absurd (no-truth f)
least y (w ∷ ws) z a m = go (bytes_eq z y) refl m (least w ws z a.1)
  where
    go : (b : Bool) → bytes_eq z y ≡ b → (b || is_one_of z (w ∷ ws)) ≡ true → (is_one_of z (w ∷ ws) ≡ true → up_to w z ≡ true) → up_to y z ≡ true
    go true e f next = subst (λ x. up_to y x ≡ true) (sym (same z y e)) (up_to-self y)
    go false e f next = up_to_trans y w z a.0 (next f)

-- a code that is less than the first of ascending ones is none of them
less-none : (x y : List ℕ) (ys : List (List ℕ)) → up_to y x ≡ false → IsAscending (y ∷ ys) → IsNoneOf x (y ∷ ys)
less-none x y ys low a z m = go (bytes_eq x z) refl
  where
    go : (b : Bool) → bytes_eq x z ≡ b → bytes_eq x z ≡ false
    go true e = absurd (no-truth (sym low ∙ subst (λ w. up_to y w ≡ true) (sym (same x z e)) (least y ys z a m)))
    go false e = e

-- the code of the base's first pair is less than the one that the walk stands at, so it is none of those to come
pub below-none : (o : Option (Bor (List ℕ))) (x : List ℕ) (ps : List Pair) → IfSome o (λ c. up_to c.now x ≡ false) → Stands o ps → IsNoneOf x (seconds ps)
below-none None x ps h s = λ z m. absurd (no-truth (ap (λ qs. is_one_of z (seconds qs)) (sym s) ∙ m))
below-none (Some c) x ps h s = λ z m. less-none x c.now (seconds ps) h s z (later-one z c.now (seconds ps) m)

-- the next code is no greater than the base's first, and is not this one
pub new-none : (c : List ℕ) (ps : List Pair) → IsBelowFirst c (seconds ps) → IsAscending (seconds ps) → (ps ≡ []) ⊎ (bytes_eq (first_code ps) c ≡ false) → IsNoneOf c (seconds ps)
new-none c [] b a o = λ z m. absurd (no-truth m)
new-none c (p ∷ ps) b a o = less-none c p.1 (seconds ps) (high (up_to p.1 c) refl o) a
  where
    high : (t : Bool) → up_to p.1 c ≡ t → (p ∷ ps ≡ []) ⊎ (bytes_eq p.1 c ≡ false) → up_to p.1 c ≡ false
    high true e (inl n) = absurd (cc n)
    high true e (inr f) = absurd (no-truth (sym f ∙ equal p.1 c (up_to_both p.1 c e b)))
    high false e o = e

pub low-first : (c : List ℕ) (ps : List Pair) → up_to c (first_code ps) ≡ true → IsBelowFirst c (seconds ps)
low-first c [] e = tt
low-first c (p ∷ ps) e = e

-- the next row's code is where the walk stands
pub stands-at : (c : List ℕ) (r : Row) (ps : List Pair) → c ≡ row_code r → IsAscending (seconds (pair_of r ∷ ps)) → IsAscending (c ∷ seconds (pair_of r ∷ ps))
stands-at c r ps e a = (ap (λ x. up_to x (row_code r)) e ∙ up_to-self (row_code r), a)

module _ (w : Walk) (all done : List Pair) where
  -- a row of the base is passed, whose code is none of those to come
  pub pass-finds : (l : Left) (ch : Changed) (d c : List ℕ) (next : List Pair) → pairs_left w.left ≡ (d, c) ∷ pairs_left l → ((k : List ℕ) → Has ch k → Has w.changed k ⊎ (k ≡ d)) → IsNoneOf c (seconds next)
      → Finds w all done next → Finds (record { left = l; changed = ch }) all done next
  pass-finds l ch d c next e only none f = record {
    left = (subst (λ (ps : List Pair). IsAscending (seconds ps)) e f.left).1;
    next = f.next;
    few = λ k x m. omega (arith, f.few k x (more x m), first k x);
    many = λ k x m. omega (arith, f.many k x m, first k x, one-other (d, c) k x (unequal c x (none x m)));
    found = λ k h. go k (only k h);
  }
    where
      first : (k x : List ℕ) → held (pairs_left w.left) k x ≡ one (d, c) k x + held (pairs_left l) k x
      first k x = ap (λ ps. held ps k x) e ∙ held-first (d, c) (pairs_left l) k x

      more : (x : List ℕ) → is_one_of x (seconds (pairs_left l)) ≡ true → is_one_of x (seconds (pairs_left w.left)) ≡ true
      more x m = ap (λ ps. is_one_of x (seconds ps)) e ∙ later-one x c (seconds (pairs_left l)) m

      this : is_one_of c (seconds (pairs_left w.left)) ≡ true
      this = ap (λ ps. is_one_of c (seconds ps)) e ∙ first-one c (seconds (pairs_left l))

      less : held all d c ≡ held (done ++ next) d c → ⊥
      less q = omega (arith, q, f.few d c this, first d c, one-self (d, c), held-append done next d c, held-none next d c none)

      go : (k : List ℕ) → Has w.changed k ⊎ (k ≡ d) → IsChanged all (done ++ next) k
      go k (inl h) = f.found k h
      go k (inr q) = subst (IsChanged all (done ++ next)) (sym q) (changed-by all (done ++ next) d c less)

  -- the next row is the base's first
  pub match-finds : (l : Left) (p : Pair) (next : List Pair) → pairs_left w.left ≡ p ∷ pairs_left l → Finds w all done (p ∷ next) → Finds (record { left = l; changed = w.changed }) all (done ++ p ∷ []) next
  match-finds l p next e f = record {
    left = (subst (λ (ps : List Pair). IsAscending (seconds ps)) e f.left).1;
    next = f.next.1;
    few = λ k x m. omega (arith, f.few k x (more x m), first k x, held-append done (p ∷ []) k x);
    many = λ k x m. omega (arith, f.many k x (later-one x p.1 (seconds next) m), first k x, held-append done (p ∷ []) k x);
    found = λ k h. subst (λ ps. IsChanged all ps k) (sym (append_assoc done (p ∷ []) next)) (f.found k h);
  }
    where
      first : (k x : List ℕ) → held (pairs_left w.left) k x ≡ one p k x + held (pairs_left l) k x
      first k x = ap (λ ps. held ps k x) e ∙ held-first p (pairs_left l) k x

      more : (x : List ℕ) → is_one_of x (seconds (pairs_left l)) ≡ true → is_one_of x (seconds (pairs_left w.left)) ≡ true
      more x m = ap (λ ps. is_one_of x (seconds ps)) e ∙ later-one x p.1 (seconds (pairs_left l)) m

  -- the next row is new, and its code is none of those that are left
  pub add-finds : (ch : Changed) (p : Pair) (next : List Pair) → ((k : List ℕ) → Has ch k → Has w.changed k ⊎ (k ≡ p.0)) → IsNoneOf p.1 (seconds (pairs_left w.left)) → Finds w all done (p ∷ next)
      → Finds (record { left = w.left; changed = ch }) all (done ++ p ∷ []) next
  add-finds ch p next only none f = record {
    left = f.left;
    next = f.next.1;
    few = λ k x m. omega (arith, f.few k x m, held-append done (p ∷ []) k x, one-other p k x (unequal p.1 x (none x m)));
    many = λ k x m. omega (arith, f.many k x (later-one x p.1 (seconds next) m), held-append done (p ∷ []) k x);
    found = λ k h. subst (λ ps. IsChanged all ps k) (sym (append_assoc done (p ∷ []) next)) (go k (only k h));
  }
    where
      less : held all p.0 p.1 ≡ held (done ++ p ∷ next) p.0 p.1 → ⊥
      less q = omega (arith, q, f.many p.0 p.1 (first-one p.1 (seconds next)), held-append done (p ∷ next) p.0 p.1, held-first p next p.0 p.1, one-self p, held-none (pairs_left w.left) p.0 p.1 none)

      go : (k : List ℕ) → Has w.changed k ⊎ (k ≡ p.0) → IsChanged all (done ++ p ∷ next) k
      go k (inl h) = f.found k h
      go k (inr q) = subst (IsChanged all (done ++ p ∷ next)) (sym q) (changed-by all (done ++ p ∷ next) p.0 p.1 less)

-- nothing is done, and no group is found
pub start-finds : (w : Walk) (next : List Pair) → ((k : List ℕ) → Has w.changed k → ⊥) → IsAscending (seconds (pairs_left w.left)) → IsAscending (seconds next) → Finds w (pairs_left w.left) [] next
start-finds w next none a b = record {
  left = a;
  next = b;
  few = λ k c m. omega arith;
  many = λ k c m. omega arith;
  found = λ k h. absurd (none k h);
}

-- the codes of rows with their codes
pub coded-seconds : (cs : List Coded) → All IsCoded cs → seconds (each pair_of (each row_of cs)) ≡ each (λ c. c.code.items) cs
coded-seconds [] h = refl
coded-seconds (c ∷ cs) h = ap (λ x. x ∷ seconds (each pair_of (each row_of cs))) (sym (All-head IsCoded c cs h)) ∙ ap (λ ys. c.code.items ∷ ys) (coded-seconds cs (All-tail IsCoded c cs h))
