-- Permutations as recursion goes by them.
use Rattle.std.specs.Prelude.{List, [], ◌∷◌}

-- the one list becomes the other by exchanges of neighbours, under members that stay
pub data Exchanges {A : Type 0} : List A → List A → Type 0 where
  nothing : Exchanges [] []
  under : {xs ys : List A} (x : A) → Exchanges xs ys → Exchanges (x ∷ xs) (x ∷ ys)
  neighbours : (x y : A) (zs : List A) → Exchanges (x ∷ y ∷ zs) (y ∷ x ∷ zs)
  then : {xs ys zs : List A} → Exchanges xs ys → Exchanges ys zs → Exchanges xs zs
