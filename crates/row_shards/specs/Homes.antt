-- The one shard that a row is taken out of where shards are put together.
use Rattle.std.specs.Prelude.{ℕ, suc, eqb, List, [], ◌∷◌, ◌++◌, filter}
use Rattle.calculus.specs.Rows.{Row, channels}
use Rattle.calculus.specs.Tree.{Tree}
use Rattle.calculus.specs.Storing.{shard}

-- the shard of the first of these channels, and 64 where there is none
abbrev pub first_shard : List Tree → ℕ
first_shard [] = 64
first_shard (c ∷ cs) = shard c

-- the shard of the first channel of a row
abbrev pub home : Row → ℕ
home r = first_shard (channels r.part)

-- the rows of shards from the number k on, each of the shard of its first channel alone
abbrev pub gathered : ℕ → List (List Row) → List Row
gathered k [] = []
gathered k (rows ∷ more) = filter (λ r. eqb (home r) k) rows ++ gathered (suc k) more
