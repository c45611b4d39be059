-- Rows in hand that a step names.
use Rattle.std.specs.Prelude.{◌≡◌, ⊤, ℕ, List, [], ◌∷◌, map as each, slice_get, Option, None, Some, option_copied}
use Rattle.calculus.specs.declared.ids.Digest.{Digest}
use Rattle.calculus.specs.Log.{Step}
use Rattle.calculus.specs.Rows.{Row}
use Rattle.calculus.specs.Steps.{Meeting}
use Rattle.racing_replays.specs.Counted.{uses}
use Rattle.hub_scenes.specs.Spaces.{SeenRow, IsIn}
use Rattle.hub_scenes.specs.Showing.{Fit, IdsTellSeen, IsLower}
use Rattle.replay_rows.specs.Rows.{find_seen}
use Rattle.replay_shards.specs.declared.taking.TakenRows.{TakenRows}

-- the ids themselves
abbrev pub bytes_of : List Digest → List (List ℕ)
bytes_of ids = each (λ (d : Digest). d.0) ids

-- the row with this id is this one, its next use is the step i, and it stands from the start or was offered by a lower step
pub record IsTaken (ss : List Step) (shown : List SeenRow) (i : ℕ) (x : List ℕ) (r : Row) : Type 0 where
  pub seen : SeenRow
  pub found : find_seen x shown ≡ Some seen
  pub row : seen.row ≡ r
  pub turn : slice_get (uses seen.row.id 0 ss) seen.done ≡ Some i
  pub lower : IsLower seen.from i

-- no row with this id is so
abbrev pub IsNotTaken : List Step → List SeenRow → ℕ → List ℕ → Type 0
IsNotTaken ss shown i x = (q : SeenRow) → find_seen x shown ≡ Some q → slice_get (uses q.row.id 0 ss) q.done ≡ Some i → IsLower q.from i → ⊥

-- rows with these ids are these, one by one
abbrev pub AreTaken : List Step → List SeenRow → ℕ → List (List ℕ) → List Row → Type 0
AreTaken ss shown i [] [] = ⊤
AreTaken ss shown i (x ∷ xs) (r ∷ rs) = IsTaken ss shown i x r × AreTaken ss shown i xs rs
AreTaken ss shown i _ _ = ⊥

-- one row alone, if there is one, and else these
abbrev pub one_or_all : Option Row → List Row → List Row
one_or_all None rs = rs
one_or_all (Some r) rs = r ∷ []

-- the rows that are taken
abbrev pub taken_rows : TakenRows → List Row
taken_rows t = one_or_all (option_copied t.one) t.copies.items

-- rows are the one with this id
abbrev pub IsTakenAlone : List Step → List SeenRow → ℕ → List ℕ → List Row → Type 0
IsTakenAlone ss shown i x rs = AreTaken ss shown i (x ∷ []) rs

-- one of these ids has no such row
pub record OneIsNotTaken (ss : List Step) (shown : List SeenRow) (i : ℕ) (ids : List (List ℕ)) : Type 0 where
  pub id : List ℕ
  pub there : IsIn id ids
  pub none : IsNotTaken ss shown i id

-- no rows in hand fit a step that stands in the log after these, where ids tell them
abbrev pub FitsNothing : List Step → List SeenRow → List Step → Step → ℕ → Type 0
FitsNothing ss shown before s i = IdsTellSeen shown → (qs : List SeenRow) (m : Meeting) → ((q : SeenRow) → IsIn q qs → IsIn q shown) → Fit ss before s i qs m → ⊥

-- the first rows with these ids are these, one by one
abbrev pub AreFound : List SeenRow → List (List ℕ) → List SeenRow → Type 0
AreFound shown [] [] = ⊤
AreFound shown (x ∷ xs) (q ∷ qs) = (find_seen x shown ≡ Some q) × AreFound shown xs qs
AreFound shown _ _ = ⊥
