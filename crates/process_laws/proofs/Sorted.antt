-- Work on trees in ascending order of their codes is that on the ascending trees.
use Rattle.std.proofs.Common.{◌≡◌, ℕ, Bool, true, false, cond, List, [], ◌∷◌, map as each, refl, sym, ap, ◌∙◌}
use Rattle.std.specs.Prelude.{⊤, zip}
use Rattle.calculus.specs.Tree.{Tree, Trees, none, also}
use Rattle.calculus.specs.Shape.{listed}
use Rattle.calculus.specs.Order.{up_to}
use Rattle.calculus.specs.Code.{code, codes}
use Rattle.calculus.specs.Normal.{placed_by, by_code, arranged_by, ascending}

module _ {A B : Type 0} (f : A → B) where
  abbrev onto : List ℕ × A → List ℕ × B
  onto x = (x.0, f x.1)

  placed-onto : (x : List ℕ × A) (xs : List (List ℕ × A)) → each onto (placed_by x xs) ≡ placed_by (onto x) (each onto xs)
  unfolding placed_by
  placed-onto x [] = refl
  placed-onto x (y ∷ ys) =
      elim (up_to x.0 y.0) as (λ (b : Bool). each onto (cond b (x ∷ y ∷ ys) (y ∷ placed_by x ys)) ≡ cond b (onto x ∷ onto y ∷ each onto ys) (onto y ∷ placed_by (onto x) (each onto ys)))
      [ true ↦ refl | false ↦ ap (λ zs. onto y ∷ zs) (placed-onto x ys) ]

  by_code-onto : (xs : List (List ℕ × A)) → each onto (by_code xs) ≡ by_code (each onto xs)
  unfolding by_code
  by_code-onto [] = refl
  by_code-onto (x ∷ xs) = placed-onto x (by_code xs) ∙ ap (placed_by (onto x)) (by_code-onto xs)

  seconds-onto : (xs : List (List ℕ × A)) → each (λ p. p.1) (each onto xs) ≡ each f (each (λ p. p.1) xs)
  seconds-onto [] = refl
  seconds-onto (x ∷ xs) = ap (λ zs. f x.1 ∷ zs) (seconds-onto xs)

  arranged-onto : (xs : List (List ℕ × A)) → arranged_by (each onto xs) ≡ each f (arranged_by xs)
  arranged-onto xs = ap (each (λ p. p.1)) (sym (by_code-onto xs)) ∙ seconds-onto (by_code xs)

zipped : {B : Type 0} (f : Tree → B) (ts : Trees) → zip (codes ts) (each f (listed ts)) ≡ each (onto f) (each (λ t. (code t, t)) (listed ts))
zipped f none = refl
zipped f (also t ts) = ap (λ zs. (code t, f t) ∷ zs) (zipped f ts)

pub arranged-work : {B : Type 0} (f : Tree → B) (ts : Trees) → arranged_by (zip (codes ts) (each f (listed ts))) ≡ each f (ascending (listed ts))
unfolding ascending
arranged-work f ts = ap arranged_by (zipped f ts) ∙ arranged-onto f (each (λ t. (code t, t)) (listed ts))

-- what holds of each of these
module _ {A : Type 0} (P : A → Type 0) where
  abbrev pub Each : List A → Type 0
  Each [] = ⊤
  Each (x ∷ xs) = P x × Each xs

module _ (P : Tree → Type 0) where
  abbrev Second : List ℕ × Tree → Type 0
  Second x = P x.1

  placed-each : (x : List ℕ × Tree) (xs : List (List ℕ × Tree)) → P x.1 → Each Second xs → Each Second (placed_by x xs)
  unfolding placed_by
  placed-each x [] h k = (h, tt)
  placed-each x (y ∷ ys) h k =
      elim (up_to x.0 y.0) as (λ (b : Bool). Each Second (cond b (x ∷ y ∷ ys) (y ∷ placed_by x ys))) [ true ↦ (h, k) | false ↦ (k.0, placed-each x ys h k.1) ]

  by_code-each : (xs : List (List ℕ × Tree)) → Each Second xs → Each Second (by_code xs)
  unfolding by_code
  by_code-each [] h = tt
  by_code-each (x ∷ xs) h = placed-each x (by_code xs) h.0 (by_code-each xs h.1)

  seconds : (xs : List (List ℕ × Tree)) → Each Second xs → Each P (each (λ p. p.1) xs)
  seconds [] h = tt
  seconds (x ∷ xs) h = (h.0, seconds xs h.1)

  beside : (ts : List Tree) → Each P ts → Each Second (each (λ t. (code t, t)) ts)
  beside [] h = tt
  beside (t ∷ ts) h = (h.0, beside ts h.1)

  pub ascending-each : (ts : List Tree) → Each P ts → Each P (ascending ts)
  unfolding ascending
  ascending-each ts h = seconds (by_code (each (λ t. (code t, t)) ts)) (by_code-each (each (λ t. (code t, t)) ts) (beside ts h))
