-- Things that are put in ascending order of codes beside them.
use Rattle.std.proofs.Common.{◌≡◌, ℕ, Bool, true, false, cond, List, [], ◌∷◌, map as each, refl, sym, ap, ◌∙◌}
use Rattle.std.specs.Prelude.{zip}
use Rattle.calculus.specs.Order.{up_to}
use Rattle.calculus.specs.Normal.{placed_by, by_code, arranged_by}

-- a thing with its code, with the thing changed
abbrev changed : {A B : Type 0} → (A → B) → List ℕ × A → List ℕ × B
changed f p = (p.0, f p.1)

module _ {A B : Type 0} (f : A → B) where
  placed-changed : (x : List ℕ × A) (xs : List (List ℕ × A)) → each (changed f) (placed_by x xs) ≡ placed_by (changed f x) (each (changed f) xs)
  unfolding placed_by
  placed-changed x [] = refl
  placed-changed x (y ∷ ys) =
      elim (up_to x.0 y.0) as (λ (b : Bool). each (changed f) (cond b (x ∷ y ∷ ys) (y ∷ placed_by x ys)) ≡ cond b (changed f x ∷ changed f y ∷ each (changed f) ys) (changed f y ∷ placed_by (changed f x) (each (changed f) ys)))
      [ true ↦ refl | false ↦ ap (λ zs. changed f y ∷ zs) (placed-changed x ys) ]

  by_code-changed : (xs : List (List ℕ × A)) → each (changed f) (by_code xs) ≡ by_code (each (changed f) xs)
  unfolding by_code
  by_code-changed [] = refl
  by_code-changed (x ∷ xs) = placed-changed x (by_code xs) ∙ ap (placed_by (changed f x)) (by_code-changed xs)

  seconds : (xs : List (List ℕ × A)) → each f (each (λ p. p.1) xs) ≡ each (λ p. p.1) (each (changed f) xs)
  seconds [] = refl
  seconds (x ∷ xs) = ap (λ ys. f x.1 ∷ ys) (seconds xs)

  zip-changed : (cs : List (List ℕ)) (xs : List A) → each (changed f) (zip cs xs) ≡ zip cs (each f xs)
  zip-changed [] xs = refl
  zip-changed (c ∷ cs) [] = refl
  zip-changed (c ∷ cs) (x ∷ xs) = ap (λ ys. (c, f x) ∷ ys) (zip-changed cs xs)

  -- it is one whether things are changed before or after
  pub arranged-each : (cs : List (List ℕ)) (xs : List A) → each f (arranged_by (zip cs xs)) ≡ arranged_by (zip cs (each f xs))
  arranged-each cs xs =
      seconds (by_code (zip cs xs)) ∙ ap (each (λ p. p.1)) (by_code-changed (zip cs xs) ∙ ap by_code (zip-changed cs xs))
