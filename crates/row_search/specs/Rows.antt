-- Rows by their channels.
use Rattle.std.specs.Prelude.{◌≡◌, ◌⊎◌, ℕ, cond, Bool, true, false, ◌&&◌, ◌||◌, List, [], ◌∷◌, Option, Some, None, is_some}
use Rattle.std.specs.Str.{bytes_eq}
use Rattle.calculus.specs.Tree.{Tree}
use Rattle.calculus.specs.Congruence.{congruent}
use Rattle.calculus.specs.Rows.{Row, channels}
use Rattle.calculus.specs.Steps.{Datum, as_receiver, as_datum}
use Rattle.events.specs.Found.{Among}

-- a thing stands in a list
abbrev pub IsIn : {A : Type 0} → A → List A → Type 0
IsIn x [] = ⊥
IsIn x (y ∷ ys) = (x ≡ y) ⊎ IsIn x ys

-- whether a channel is congruent to one of these
abbrev pub is_one_channel : Tree → List Tree → Bool
is_one_channel c [] = false
is_one_channel c (d ∷ ds) = congruent c d || is_one_channel c ds

-- whether a row is a send on a channel
abbrev pub is_sent_on : Tree → Row → Bool
is_sent_on c r = is_some (as_datum r.part) && is_one_channel c (channels r.part)

-- whether a row is a receive with a bind on a channel
abbrev pub is_heard_on : Tree → Row → Bool
is_heard_on c r = is_some (as_receiver r.part) && is_one_channel c (channels r.part)

-- the first of these rows with this id
abbrev pub row_with : List ℕ → List Row → Option Row
row_with x [] = None
row_with x (r ∷ rs) = cond (bytes_eq x r.id) (Some r) (row_with x rs)

-- a row where there is one, and then these
abbrev pub with_row : Option Row → List Row → List Row
with_row None rs = rs
with_row (Some r) rs = r ∷ rs

-- the rows with these ids, those of them that are there
abbrev pub looked_up : List Row → List (List ℕ) → List Row
looked_up rows [] = []
looked_up rows (x ∷ xs) = with_row (row_with x rows) (looked_up rows xs)

-- all sends on a channel that are at hand are found by these ids
abbrev pub HasSends : List Row → Tree → List (List ℕ) → Type 0
HasSends rows c xs = (r : Row) → Among r rows → is_sent_on c r ≡ true → Among r (looked_up rows xs)

-- all receives at hand with a bind on a channel are found by these ids
abbrev pub HasReceivers : List Row → Tree → List (List ℕ) → Type 0
HasReceivers rows c xs = (r : Row) → Among r rows → is_heard_on c r ≡ true → Among r (looked_up rows xs)

-- whether a datum is persistent, where there is one
abbrev pub is_lasting_datum : Option Datum → Bool
is_lasting_datum None = false
is_lasting_datum (Some d) = d.persistent

-- whether a row is a persistent send
abbrev pub is_persistent : Row → Bool
is_persistent r = is_lasting_datum (as_datum r.part)
