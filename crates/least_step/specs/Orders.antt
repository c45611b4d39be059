-- Rows in the order of their ids.
use Rattle.std.specs.Prelude.{◌≡◌, ℕ, true, false, List, [], ◌∷◌, map as each, All, ⊤}
use Rattle.std.specs.Borrow.{Bor}
use Rattle.std.specs.Str.{bytes_eq}
use Rattle.calculus.specs.Order.{up_to}
use Rattle.calculus.specs.Rows.{Row}

-- the ids of rows
abbrev pub ids_of : List Row → List (List ℕ)
ids_of rs = each (λ r. r.id) rs

-- the row behind a reference
abbrev pub referred : Bor Row → Row
referred r = r.now

-- a row's id is less than another's
abbrev pub IsBefore : Row → Row → Type 0
IsBefore r q = (bytes_eq r.id q.id ≡ false) × (up_to r.id q.id ≡ true)

-- each id is less than those after it
abbrev pub AreAscending : List Row → Type 0
AreAscending [] = ⊤
AreAscending (r ∷ rs) = All (IsBefore r) rs × AreAscending rs
