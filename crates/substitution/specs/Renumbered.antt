-- The new indices of variables whose places are in another order.
use Rattle.std.specs.Prelude.{ℕ, ◌+◌, ◌-◌, List, length, drop}
use Rattle.calculus.specs.Unfolding.{place_in}

-- the new index of the variable of index k, where the places from number j on are known
abbrev pub index_from : ℕ → List ℕ → ℕ → ℕ
index_from j places k = (length places - 1) - (j + place_in (drop j places) ((length places - 1) - k))
