-- Ids in a list, and the places at which they stand.
use Rattle.std.specs.Prelude.{◌≡◌, ◌≢◌, ◌⊎◌, ℕ, List, map as each, Some, slice_get}
use Rattle.std.specs.Ordering.{nat_cmp}
use Rattle.std.specs.Cmp.Lexicographic.{slice_cmp}
use Rattle.std.specs.BTreeMap.{BTreeMap, get}
use Rattle.calculus.specs.declared.ids.Digest.{Digest}

-- the bytes of each of these
abbrev pub bytes_of : List Digest → List (List ℕ)
bytes_of ds = each (λ d. d.0) ds

-- an id stands at this place
abbrev pub StandsAt : List (List ℕ) → ℕ → List ℕ → Type 0
StandsAt xs i x = slice_get xs i ≡ Some x

-- an id has this place in a map
abbrev pub HasPlace : BTreeMap (List ℕ) ℕ → List ℕ → ℕ → Type 0
HasPlace places x i = get (slice_cmp nat_cmp) places x ≡ Some i

-- each id that has a place stands there
abbrev pub TellsAll : BTreeMap (List ℕ) ℕ → List (List ℕ) → Type 0
TellsAll places xs = (x : List ℕ) (i : ℕ) → HasPlace places x i → StandsAt xs i x

-- only this id may have another place than before, and that is this one
abbrev pub TellsOthers : BTreeMap (List ℕ) ℕ → BTreeMap (List ℕ) ℕ → List ℕ → ℕ → Type 0
TellsOthers old new x p = (y : List ℕ) (i : ℕ) → HasPlace new y i → ((y ≡ x) × (i ≡ p)) ⊎ ((y ≢ x) × HasPlace old y i)
