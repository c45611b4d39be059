-- The two ways to look an item up.
use Rattle.std.proofs.Common.{◌≡◌, ℕ, zero, suc, List, [], ◌∷◌, ap, Some}
use Rattle.std.specs.Prelude.{slice_get}
use mathlib.Core.Option.{some, some-injective}
use lib.ListN.{get_elem?}

module _ {A : Type 0} where
  pub get_some : (xs : List A) (k : ℕ) (x : A) → get_elem? xs k ≡ some x → slice_get xs k ≡ Some x
  get_some [] k x e = (cc)
  get_some (y ∷ ys) zero x e = (let q : y ≡ x = some-injective y x e in ap Some q)
  get_some (y ∷ ys) (suc k) x e = get_some ys k x e

  pub get_elem : (xs : List A) (k : ℕ) (x : A) → slice_get xs k ≡ Some x → get_elem? xs k ≡ some x
  get_elem [] k x e = (cc)
  get_elem (y ∷ ys) zero x e = (let q : y ≡ x = cc in ap some q)
  get_elem (y ∷ ys) (suc k) x e = get_elem ys k x e
