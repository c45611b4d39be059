-- Sums over views, where one view changes or comes.
use Rattle.std.proofs.Common.{◌≡◌, ◌≢◌, ℕ, zero, suc, ◌+◌, ◌<◌, ◌≤◌, List, [], ◌∷◌, ◌++◌, map, length, set, refl, sym, ap, arith, ◌*◌, eqb, eq-eqb, add-mul, subst, ⊎_elim}
use mathlib.Core.Option.{some, some-injective, some-ne-none}
use lib.ListN.{get_elem?}
use Rattle.atomic_table.proofs.Lists.{at_set}
use Rattle.hub_rule.specs.Counts.{one_if, total, count, Each}

module _ {A : Type 0} where
  pub empty_list : (xs : List A) → length xs ≡ 0 → xs ≡ []
  empty_list [] e = refl
  empty_list (x ∷ xs) e = absurd (omega arith)

  pub total_set : (f : A → ℕ) (xs : List A) (i : ℕ) (v w : A) → get_elem? xs i ≡ some v → total f (set xs i w) + f v ≡ total f xs + f w
  total_set f [] i v w at = absurd (some-ne-none v (sym at))
  total_set f (x ∷ xs) zero v w at = let e = ap f (some-injective x v at) in omega arith
  total_set f (x ∷ xs) (suc i) v w at = let r = total_set f xs i v w at in omega arith

  -- where f stays
  pub total_same : (f : A → ℕ) (xs : List A) (i : ℕ) (v w : A) → get_elem? xs i ≡ some v → f w ≡ f v → total f (set xs i w) ≡ total f xs
  total_same f xs i v w at e = let r = total_set f xs i v w at in omega arith

  pub total_at : (f : A → ℕ) (xs : List A) (i : ℕ) (v : A) → get_elem? xs i ≡ some v → f v ≤ total f xs
  total_at f [] i v at = absurd (some-ne-none v (sym at))
  total_at f (x ∷ xs) zero v at = let e = ap f (some-injective x v at) in omega arith
  total_at f (x ∷ xs) (suc i) v at = let r = total_at f xs i v at in omega arith

  pub total_two : (f : A → ℕ) (xs : List A) (i j : ℕ) (v w : A) → get_elem? xs i ≡ some v → get_elem? xs j ≡ some w → i ≢ j → f v + f w ≤ total f xs
  total_two f [] i j v w at bt ne = absurd (some-ne-none v (sym at))
  total_two f (x ∷ xs) zero zero v w at bt ne = absurd (ne refl)
  total_two f (x ∷ xs) zero (suc j) v w at bt ne = let e = ap f (some-injective x v at) in let r = total_at f xs j w bt in omega arith
  total_two f (x ∷ xs) (suc i) zero v w at bt ne = let e = ap f (some-injective x w bt) in let r = total_at f xs i v at in omega arith
  total_two f (x ∷ xs) (suc i) (suc j) v w at bt ne = let r = total_two f xs i j v w at bt (λ h. ne (ap suc h)) in omega arith

  pub total_more : (f : A → ℕ) (xs : List A) (v : A) → total f (xs ++ v ∷ []) ≡ total f xs + f v
  total_more f [] v = omega arith
  total_more f (x ∷ xs) v = let r = total_more f xs v in omega arith

  pub total_both : (f : A → ℕ) (xs ys : List A) → total f (xs ++ ys) ≡ total f xs + total f ys
  total_both f [] ys = omega arith
  total_both f (x ∷ xs) ys = let r = total_both f xs ys in omega arith

  pub count_more : (n : ℕ) (ps qs : List (ℕ × A)) → count n (ps ++ qs) ≡ count n ps + count n qs
  count_more n [] qs = omega arith
  count_more n (p ∷ ps) qs = let r = count_more n ps qs in omega arith

  -- what holds of each, holds of each else
  pub each_to : (P Q : ℕ → A → Type 0) → ((n : ℕ) (a : A) → P n a → Q n a) → (ps : List (ℕ × A)) → Each P ps → Each Q ps
  each_to P Q f [] h = tt
  each_to P Q f (p ∷ ps) h = (f p.0 p.1 h.0, each_to P Q f ps h.1)

  pub each_more : (P : ℕ → A → Type 0) (ps qs : List (ℕ × A)) → Each P ps → Each P qs → Each P (ps ++ qs)
  each_more P [] qs h k = k
  each_more P (p ∷ ps) qs h k = (h.0, each_more P ps qs h.1 k)

module _ {A : Type 0} where
  -- what holds of each whose number is there, holds of each else
  pub each_in : (P Q : ℕ → A → Type 0) (ps : List (ℕ × A)) → ((n : ℕ) (a : A) → 0 < count n ps → P n a → Q n a) → Each P ps → Each Q ps
  each_in P Q [] f h = tt
  each_in P Q (p ∷ ps) f h = (f p.0 p.1 (let e : one_if (eqb p.0 p.0) ≡ 1 = ap one_if (eq-eqb p.0 p.0 refl) in omega arith) h.0, each_in P Q ps (λ n a c. f n a (omega arith)) h.1)

  pub total_le : (f g : A → ℕ) (xs : List A) → ((i : ℕ) (x : A) → get_elem? xs i ≡ some x → f x ≤ g x) → total f xs ≤ total g xs
  total_le f g [] h = omega arith
  total_le f g (x ∷ xs) h = let a = h 0 x refl in let r = total_le f g xs (λ i. h (suc i)) in omega arith

  pub total_times : (f : A → ℕ) (k : ℕ) (xs : List A) → total (λ x. f x * k) xs ≡ total f xs * k
  total_times f k [] = omega arith
  total_times f k (x ∷ xs) = let r = total_times f k xs in omega (arith, add-mul (f x) (total f xs) k)

-- what holds of the one that changes and of all others
pub of_set : {A : Type 0} (P : A → Type 0) (xs : List A) (i : ℕ) (w : A) → P w → ((j : ℕ) (u : A) → get_elem? xs j ≡ some u → P u) → (j : ℕ) (u : A) → get_elem? (set xs i w) j ≡ some u → P u
of_set P xs i w here all j u at = ⊎_elim (λ s. subst P s.1 here) (λ s. all j u s.1) (at_set xs i j w u at)

pub total_map : {A B : Type 0} (f : B → ℕ) (g : A → B) (xs : List A) → total f (map g xs) ≡ total (λ x. f (g x)) xs
total_map f g [] = refl
total_map f g (x ∷ xs) = ap (λ (n : ℕ). f (g x) + n) (total_map f g xs)

pub each_cut : {A : Type 0} (P : ℕ → A → Type 0) (ps qs : List (ℕ × A)) → Each P (ps ++ qs) → Each P ps × Each P qs
each_cut P [] qs h = (tt, h)
each_cut P (p ∷ ps) qs h = let r = each_cut P ps qs h.1 in ((h.0, r.0), r.1)
