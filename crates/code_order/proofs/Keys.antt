-- Things in the order of their keys, which are lists of bytes.
use Rattle.std.proofs.Common.{◌≡◌, ℕ, Bool, true, false, cond, ◌⊎◌, inl, inr, List, [], ◌∷◌, map, refl, ap, sym, ◌∙◌, subst}
use Rattle.std.specs.Prelude.{⊤}
use Rattle.calculus.specs.Order.{up_to}
use Rattle.calculus.specs.Normal.{placed_by, by_code, arranged_by}
use Rattle.calculus.proofs.Ordered.{up_to_total}

pub decided : (b : Bool) → (b ≡ true) ⊎ (b ≡ false)
decided true = inl refl
decided false = inr refl

pub map-self : {X : Type 0} (xs : List X) → map (λ x. x) xs ≡ xs
map-self [] = refl
map-self (x ∷ xs) = ap (λ ys. x ∷ ys) (map-self xs)

module _ {X : Type 0} (k : X → List ℕ) where
  -- a thing among ascending ones, before the first whose key is not less
  unfoldable pub put_in : X → List X → List X
  put_in x [] = x ∷ []
  put_in x (y ∷ ys) = cond (up_to (k x) (k y)) (x ∷ y ∷ ys) (y ∷ put_in x ys)

  -- these things, ascending
  unfoldable pub sort_in : List X → List X
  sort_in [] = []
  sort_in (x ∷ xs) = put_in x (sort_in xs)

  -- the key is no greater than that of the first
  abbrev pub Below : X → List X → Type 0
  Below x [] = ⊤
  Below x (y ∷ ys) = up_to (k x) (k y) ≡ true

  -- the keys ascend
  abbrev pub Up : List X → Type 0
  Up [] = ⊤
  Up (x ∷ xs) = Below x xs × Up xs

  pub sort-none : sort_in [] ≡ []
  unfolding sort_in
  sort-none = refl

  pub sort-cons : (x : X) (xs : List X) → sort_in (x ∷ xs) ≡ put_in x (sort_in xs)
  unfolding sort_in
  sort-cons x xs = refl

  pub put-front : (x y : X) (ys : List X) → up_to (k x) (k y) ≡ true → put_in x (y ∷ ys) ≡ x ∷ y ∷ ys
  unfolding put_in
  put-front x y ys e = rw e refl

  pub put-further : (x y : X) (ys : List X) → up_to (k x) (k y) ≡ false → put_in x (y ∷ ys) ≡ y ∷ put_in x ys
  unfolding put_in
  put-further x y ys e = rw e refl

  pub put-none : (x : X) → put_in x [] ≡ x ∷ []
  unfolding put_in
  put-none x = refl

  below-put : (x y : X) (ys : List X) → up_to (k y) (k x) ≡ true → Below y ys → Below y (put_in x ys)
  unfolding put_in
  below-put x y [] e b = e
  below-put x y (z ∷ zs) e b =
      elim (up_to (k x) (k z)) as (λ (t : Bool). Below y (cond t (x ∷ z ∷ zs) (z ∷ put_in x zs))) [ true ↦ e | false ↦ b ]

  up-put : (x : X) (ys : List X) → Up ys → Up (put_in x ys)
  up-put x [] u = subst Up (sym (put-none x)) (tt, tt)
  up-put x (y ∷ ys) u =
      elim (decided (up_to (k x) (k y))) [
        | inl e ↦ subst Up (sym (put-front x y ys e)) (e, u)
        | inr e ↦ subst Up (sym (put-further x y ys e)) (below-put x y ys (up_to_total (k x) (k y) e) u.0, up-put x ys u.1)
      ]

  pub up-sort : (xs : List X) → Up (sort_in xs)
  unfolding sort_in
  up-sort [] = tt
  up-sort (x ∷ xs) = up-put x (sort_in xs) (up-sort xs)

  module _ {Y : Type 0} (g : X → Y) where
    placed-put : (x : X) (ys : List X) → placed_by (k x, g x) (map (λ y. (k y, g y)) ys) ≡ map (λ y. (k y, g y)) (put_in x ys)
    unfolding placed_by put_in
    placed-put x [] = refl
    placed-put x (y ∷ ys) =
        elim (up_to (k x) (k y)) as (λ (t : Bool). cond t ((k x, g x) ∷ (k y, g y) ∷ map (λ z. (k z, g z)) ys) ((k y, g y) ∷ placed_by (k x, g x) (map (λ z. (k z, g z)) ys)) ≡ map (λ z. (k z, g z)) (cond t (x ∷ y ∷ ys) (y ∷ put_in x ys))) [
          | true ↦ refl
          | false ↦ ap (λ zs. (k y, g y) ∷ zs) (placed-put x ys)
        ]

    by-sort : (xs : List X) → by_code (map (λ y. (k y, g y)) xs) ≡ map (λ y. (k y, g y)) (sort_in xs)
    unfolding by_code sort_in
    by-sort [] = refl
    by-sort (x ∷ xs) = ap (placed_by (k x, g x)) (by-sort xs) ∙ placed-put x (sort_in xs)

    seconds : (xs : List X) → map {A = List ℕ × Y} (λ p. p.1) (map (λ y. (k y, g y)) xs) ≡ map g xs
    seconds [] = refl
    seconds (x ∷ xs) = ap (λ ys. g x ∷ ys) (seconds xs)

    -- what the definitions arrange by keys is what is sorted here
    pub arranged-with : (xs : List X) → arranged_by (map (λ y. (k y, g y)) xs) ≡ map g (sort_in xs)
    arranged-with xs = ap (map {A = List ℕ × Y} (λ p. p.1)) (by-sort xs) ∙ seconds (sort_in xs)

  pub arranged-sort : (xs : List X) → arranged_by (map (λ y. (k y, y)) xs) ≡ sort_in xs
  arranged-sort xs = arranged-with (λ y. y) xs ∙ map-self (sort_in xs)
