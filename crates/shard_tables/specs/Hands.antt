-- Rows of shards in hand, and what tables make of shards.
use Rattle.std.specs.Prelude.{◌≡◌, ◌↔◌, ◌<◌, ℕ, true, eqb, List, [], ◌∷◌, ◌++◌, map as each, Option, Some, None, slice_get, IsPermutation}
use Rattle.std.specs.Int.{bit_at}
use Rattle.calculus.specs.Rows.{Row}
use Rattle.calculus.specs.Steps.{differ}
use Rattle.events.specs.Found.{Among, without}
use Rattle.events.specs.Shards.{rows_in, IsProjection}
use Rattle.events.specs.Hands.{shows}

-- no two of these rows have one id
abbrev pub IdsDiffer : List Row → Type 0
IdsDiffer rows = differ (each (λ r. r.id) rows) ≡ true

module _ {X : Type 0} (rows : X → List Row) where
  -- a row stands in a shard in hand
  abbrev pub IsInHand : (ℕ → Option X) → Row → Type 0
  IsInHand in_hand r = (k : ℕ) × (x : X) × (in_hand k ≡ Some x) × Among r (rows x)

  -- these are the rows in hand, in any order and as often as may be
  abbrev pub AreInHand : (ℕ → Option X) → List Row → Type 0
  AreInHand in_hand all = (r : Row) → Among r all ↔ IsInHand in_hand r

  -- each shard in hand was made this of, and the same numbers are in hand
  pub record AreMade (says : ℕ → List Row → List Row → Type 0) (old new : ℕ → Option X) : Type 0 where
    pub here : (k : ℕ) (x : X) → old k ≡ Some x → (y : X) × (new k ≡ Some y) × says k (rows x) (rows y)
    pub absent : (k : ℕ) → old k ≡ None → new k ≡ None

  -- these shards are the projections of a store to their places
  abbrev pub AreShardsOf : List Row → List X → Type 0
  AreShardsOf store xs = (k : ℕ) (x : X) → slice_get xs k ≡ Some x → IsProjection store k (rows x)

-- the rows with these ids are gone, where no two of a shard have one id
abbrev pub LosesRows : List (List ℕ) → ℕ → List Row → List Row → Type 0
LosesRows gone k old new = IdsDiffer old → IsPermutation (without gone old) new

-- the row came, where it stands in the shard of this number, if no two of the shard and it have one id
abbrev pub GainsRow : Row → ℕ → List Row → List Row → Type 0
GainsRow o k old new = IdsDiffer (o ∷ old) → IsPermutation (old ++ rows_in k (o ∷ [])) new

-- of the low 64 bits of a number those are set whose shards these rows show for an operation
abbrev pub AreShown : List Row → Row → ℕ → Type 0
AreShown all o n = (k : ℕ) → k < 64 → eqb (bit_at n k) 1 ≡ shows all o k
