-- The 64 shards of a store: which rows stand in which, and what entries make of them.
use Rattle.std.specs.Prelude.{◌≡◌, ℕ, Bool, true, eqb, List, [], ◌∷◌, ◌++◌, filter, map as each, Option, Some, None, IsPermutation}
use Rattle.std.specs.List.{list_any}
use Rattle.calculus.specs.Rows.{Row, channels}
use Rattle.calculus.specs.Steps.{is_one_of, differ}
use Rattle.calculus.specs.Storing.{shard}
use Rattle.events.specs.Found.{Among, without}
use Rattle.events.specs.Entries.{Making}

-- the shards that a row stands in, each as often as one of its channels has it: a send stands in the shard of its channel, and a receive in that of each of its channels
abbrev pub shards_of : Row → List ℕ
shards_of r = each shard (channels r.part)

-- whether a row stands in the shard k
abbrev pub stands_in : ℕ → Row → Bool
stands_in k r = list_any (eqb k) (shards_of r)

-- the rows of a store that stand in the shard k
abbrev pub rows_in : ℕ → List Row → List Row
rows_in k store = filter (stands_in k) store

-- these are the rows of the shard k of a store, in some order
abbrev pub IsProjection : List Row → ℕ → List Row → Type 0
IsProjection store k rows = IsPermutation (rows_in k store) rows

-- the rows that come to a store or leave it, where an operation is stored, or makes a step that takes away the rows with the ids that are gone
abbrev pub changed_rows : List Row → Row → Option Making → List Row
changed_rows store o None = o ∷ []
changed_rows store o (Some a) = filter (λ r. is_one_of r.id a.gone) store

-- all shards that these rows stand in are touched
abbrev pub Covers : (ℕ → Bool) → List Row → Type 0
Covers touched rows = (r : Row) (k : ℕ) → Among r rows → stands_in k r ≡ true → touched k ≡ true

-- what is made of the rows of the shard k where an operation is stored, or makes a step: this takes nothing from a store but the rows of that shard
abbrev pub shard_after : ℕ → List Row → Row → Option Making → List Row
shard_after k rows o None = rows ++ rows_in k (o ∷ [])
shard_after k rows o (Some a) = without a.gone rows

-- The same as a table does it, in whatever order: the operation comes, where it stands in the shard, or the rows leave whose ids are gone. Where two rows of the shard
-- have one id nothing is said of a step.
abbrev pub Becomes : ℕ → Row → Option Making → List Row → List Row → Type 0
Becomes k o None rows later = IsPermutation (shard_after k rows o None) later
Becomes k o (Some a) rows later = differ (each (λ r. r.id) rows) ≡ true → IsPermutation (shard_after k rows o (Some a)) later
