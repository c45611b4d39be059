-- Things put in the order of their codes: what is so of each before is so after and the other way round, and codes that differ rise.
use Rattle.std.proofs.Common.{◌≡◌, ℕ, Bool, true, false, cond, List, [], ◌∷◌, map as each, refl}
use Rattle.std.specs.Prelude.{⊤}
use Rattle.std.proofs.lemmas.Bool.{false_from_ne_true}
use Rattle.calculus.proofs.Members.{Every}
use Rattle.calculus.specs.Order.{up_to}
use Rattle.calculus.specs.Normal.{placed_by, by_code}
use Rattle.calculus.specs.Storing.{IsLessThanFirst, AreRising}
use Rattle.calculus.proofs.Ordered.{up_to_both}

module _ {A : Type 0} where
  -- the codes of these
  abbrev pub codes_of : List (List ℕ × A) → List (List ℕ)
  codes_of xs = each (λ x. x.0) xs

  -- none of these has this code
  abbrev pub LackCode : List ℕ → List (List ℕ × A) → Type 0
  LackCode c xs = Every (λ x. c ≡ x.0 → ⊥) xs

  -- none of these has the code of a later one
  abbrev pub HaveOwnCodes : List (List ℕ × A) → Type 0
  HaveOwnCodes [] = ⊤
  HaveOwnCodes (x ∷ xs) = LackCode x.0 xs × HaveOwnCodes xs

  module _ (P : List ℕ × A → Type 0) where
    placed-every : (x : List ℕ × A) (xs : List (List ℕ × A)) → P x → Every P xs → Every P (placed_by x xs)
    unfolding placed_by
    placed-every x [] h k = (h, tt)
    placed-every x (z ∷ zs) h k =
        elim (up_to x.0 z.0) as (λ (b : Bool). Every P (cond b (x ∷ z ∷ zs) (z ∷ placed_by x zs))) [ true ↦ (h, k) | false ↦ (k.0, placed-every x zs h k.1) ]

    pub by_code-every : (xs : List (List ℕ × A)) → Every P xs → Every P (by_code xs)
    unfolding by_code
    by_code-every [] h = tt
    by_code-every (x ∷ xs) h = placed-every x (by_code xs) h.0 (by_code-every xs h.1)

    every-placed : (x : List ℕ × A) (xs : List (List ℕ × A)) → Every P (placed_by x xs) → P x × Every P xs
    unfolding placed_by
    every-placed x [] h = (h.0, tt)
    every-placed x (z ∷ zs) h = go (λ k. every-placed x zs k) (up_to x.0 z.0) h
      where
        go : (Every P (placed_by x zs) → P x × Every P zs) → (b : Bool) → Every P (cond b (x ∷ z ∷ zs) (z ∷ placed_by x zs)) → P x × (P z × Every P zs)
        go next true h = h
        go next false h = let k = next h.1 in (k.0, (h.0, k.1))

    pub every-by_code : (xs : List (List ℕ × A)) → Every P (by_code xs) → Every P xs
    unfolding by_code
    every-by_code [] h = tt
    every-by_code (x ∷ xs) h = let k = every-placed x (by_code xs) h in (k.0, every-by_code xs k.1)

  less-placed : (c : List ℕ) (x : List ℕ × A) (xs : List (List ℕ × A)) → up_to x.0 c ≡ false → IsLessThanFirst c (codes_of xs) → IsLessThanFirst c (codes_of (placed_by x xs))
  unfolding placed_by
  less-placed c x [] e h = e
  less-placed c x (z ∷ zs) e h =
      elim (up_to x.0 z.0) as (λ (b : Bool). IsLessThanFirst c (codes_of (cond b (x ∷ z ∷ zs) (z ∷ placed_by x zs)))) [ true ↦ e | false ↦ h ]

  placed-rising : (x : List ℕ × A) (xs : List (List ℕ × A)) → LackCode x.0 xs → AreRising (codes_of xs) → AreRising (codes_of (placed_by x xs))
  unfolding placed_by
  placed-rising x [] d h = (tt, tt)
  placed-rising x (z ∷ zs) d h = go (placed-rising x zs d.1 h.1) (up_to x.0 z.0) refl
    where
      go : AreRising (codes_of (placed_by x zs)) → (b : Bool) → up_to x.0 z.0 ≡ b → AreRising (codes_of (cond b (x ∷ z ∷ zs) (z ∷ placed_by x zs)))
      go next true e = (false_from_ne_true (up_to z.0 x.0) (λ f. d.0 (up_to_both x.0 z.0 e f)), h)
      go next false e = (less-placed z.0 x zs e h.0, next)

  -- codes that differ rise once they are in order
  pub by_code-rising : (xs : List (List ℕ × A)) → HaveOwnCodes xs → AreRising (codes_of (by_code xs))
  unfolding by_code
  by_code-rising [] h = tt
  by_code-rising (x ∷ xs) h = placed-rising x (by_code xs) (by_code-every (λ y. x.0 ≡ y.0 → ⊥) xs h.0) (by_code-rising xs h.1)
