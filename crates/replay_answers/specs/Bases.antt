-- What a replay is asked for, and the rows that it may begin with.
use Rattle.std.specs.Prelude.{ℕ, List, map as each}
use Rattle.calculus.specs.Outcome.{Prices}
use Rattle.calculus.specs.Rows.{Row}
use Rattle.calculus.specs.Tree.{Tree}
use Rattle.replays.specs.Replays.{Given}

-- the ids of rows
abbrev pub ids_of : List Row → List (List ℕ)
ids_of rs = each (λ r. r.id) rs

-- what a replay is given: a checkpoint's rows, the process and the digest of its source, and prices
abbrev pub asked : List Row → Tree → List ℕ → Prices → Given
asked rows t source p = record { rows = rows; process = t; source = source; prices = p }
