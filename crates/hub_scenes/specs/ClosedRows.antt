-- The rows of closed shards, each once.
use Rattle.std.specs.Prelude.{◌≡◌, ◌≢◌, ℕ, suc, Bool, false, eqb, List, [], ◌∷◌, ◌++◌, length, filter, slice_get, Some, IsPermutation}
use Rattle.calculus.specs.Rows.{Row, channels}
use Rattle.events.specs.Found.{Among}
use Rattle.events.specs.Shards.{shards_of, IsProjection}

-- whether the first of these is k
abbrev pub first_is : ℕ → List ℕ → Bool
first_is k [] = false
first_is k (j ∷ js) = eqb k j

-- whether the first channel of a row has the shard k
abbrev pub is_home : ℕ → Row → Bool
is_home k r = first_is k (shards_of r)

-- the rows of shards, of which the first has the number k: from each shard those whose first channel has it
abbrev pub rows_once : ℕ → List (List Row) → List Row
rows_once k [] = []
rows_once k (rows ∷ shards) = filter (is_home k) rows ++ rows_once (suc k) shards

-- from all 64 projections of a store whose rows have channels, as each row has that may be stored, they are the rows of the store
abbrev pub ShardsHaveAllRows : Type 0
ShardsHaveAllRows = (store : List Row) (shards : List (List Row)) → length shards ≡ 64 → ((k : ℕ) (rows : List Row) → slice_get shards k ≡ Some rows → IsProjection store k rows)
    → ((r : Row) → Among r store → channels r.part ≢ []) → IsPermutation (rows_once 0 shards) store
