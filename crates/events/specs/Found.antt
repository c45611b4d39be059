-- Rows that meet, whatever bag they stand in.
use Rattle.std.specs.Prelude.{◌≡◌, ◌⊎◌, ⊤, ℕ, Bool, cond, ◌&&◌, ◌||◌, List, [], ◌∷◌, ◌++◌, map as each, Option}
use Rattle.calculus.specs.declared.plain.Kind.{Kind}
use Rattle.std.specs.Str.{bytes_eq}
use Rattle.calculus.specs.Shape.{at}
use Rattle.calculus.specs.Log.{Step}
use Rattle.calculus.specs.Rows.{Row, stdout, stdout_ack}
use Rattle.calculus.specs.Unfolding.{rows_of}
use Rattle.calculus.specs.Steps.{PlacedRow, Datum, Meeting, is_one_of, stays, peeks, all_persistent, meet_rows, line}
use Rattle.calculus.specs.Runs.{Work, work_products}
use Rattle.calculus.specs.Candidates.{next_step}
use Rattle.events.specs.Events.{Core}

-- a row that stands by itself
abbrev pub alone : Row → PlacedRow
alone r = (0, r)

-- a receiver's row with the rows of its data, where they meet
abbrev pub met : List Row → Option Meeting
met rows = meet_rows (each alone rows)

-- the rows of data that leave
abbrev pub leaving_sends : Kind → List Row → List Datum → List Row
leaving_sends k [] ds = []
leaving_sends k (r ∷ rs) [] = []
leaving_sends k (r ∷ rs) (d ∷ ds) = cond (peeks k || d.persistent) (leaving_sends k rs ds) (r ∷ leaving_sends k rs ds)

-- the rows that leave where a receiver's row meets the rows of its data
abbrev pub leaving_rows : Kind → List Datum → List Row → List Row
leaving_rows k ds [] = []
leaving_rows k ds (r ∷ rs) = cond (stays k) [] (r ∷ []) ++ leaving_sends k rs ds

-- rows but those with these ids
abbrev pub without : List (List ℕ) → List Row → List Row
without xs [] = []
without xs (r ∷ rs) = cond (is_one_of r.id xs) (without xs rs) (r ∷ without xs rs)

-- a row stands in a list
abbrev pub Among : Row → List Row → Type 0
Among r [] = ⊥
Among r (q ∷ qs) = (r ≡ q) ⊎ Among r qs

-- each of these rows is one that an operation may meet or be: stored, built in or the operation itself
abbrev pub AreAtHand : List Row → Row → List Row → Type 0
AreAtHand store operation [] = ⊤
AreAtHand store operation (r ∷ rs) = Among r (store ++ (stdout ∷ stdout_ack ∷ operation ∷ [])) × AreAtHand store operation rs

-- whether a meeting takes no row away
abbrev pub is_lasting : Meeting → Bool
is_lasting m = stays m.receiver.kind && all_persistent m.sends

-- whether a row has the id of a built-in receiver
abbrev pub has_built_in_id : Row → Bool
has_built_in_id r = bytes_eq r.id stdout.id || bytes_eq r.id stdout_ack.id

-- what a receiver's row prints that meets the rows of its data so
abbrev pub printed_by : List Row → Meeting → List ℕ
printed_by [] m = []
printed_by (r ∷ rs) m = cond (has_built_in_id r) (line (at 0 m.bindings)) []

-- the core after these rows met in the step s, whose body came to this work
abbrev pub after_meeting : Core → Row → List Row → List Row → List Row → Meeting → Step → Work → Core
after_meeting c operation before after rows m s w =
    let gone : List (List ℕ) = each (λ r. r.id) (leaving_rows m.receiver.kind m.sends rows) in
    record { store = without gone c.store; pending = before ++ ((without gone (operation ∷ []) ++ rows_of (work_products w)) ++ after); made = c.made ++ s ∷ []; works = c.works ++ w ∷ []; output = c.output ++ printed_by rows m }

-- the next step of a receiver's row and the rows of its data
abbrev pub step_of : List Step → Row → List Row → Step
step_of made r ds = next_step made r.id (each (λ d. d.id) ds)
