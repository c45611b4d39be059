-- The names in scope.
use Rattle.std.specs.Prelude.{ℕ, List, ◌++◌, reverse}

-- the names of a scope and then these, in this order
abbrev pub within : List (List ℕ) → List (List ℕ) → List (List ℕ)
within xs v = reverse xs ++ v
