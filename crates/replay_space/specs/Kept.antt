-- What a shard of a replay keeps of a row, and that it tells whether it is a step's turn.
use Rattle.std.specs.Prelude.{◌≡◌, ◌<◌, ◌↔◌, ◌⊎◌, ⊤, ℕ, true, List, [], ◌∷◌, ◌++◌, length, map as each, count_by, Option, Some, None}
use Rattle.calculus.specs.Log.{Step}
use Rattle.calculus.specs.Rows.{Row}
use Rattle.calculus.specs.Steps.{Bag, standing}
use Rattle.calculus.specs.Runs.{Deploy, Work}
use Rattle.racing_replays.specs.Replaying.{DoneStep, Replay, done_steps, rows_by, names, ids_of, is_due, Replays}
use Rattle.racing_replays.specs.Laws.{first_bag, IsFresh}
use Rattle.racing_replays.specs.Counted.{names_id}

-- A row that has arrived, the index of the step that offered it, and how many done steps name it. A row that stood there from the start has no such step, nor one that the source offered.
pub record SeenRow : Type 0 where
  pub row : Row
  pub from : Option ℕ
  pub done : ℕ

-- the rows themselves
abbrev pub bare : List SeenRow → List Row
bare qs = each (λ q. q.row) qs

-- it is one of these
abbrev pub Has : {A : Type 0} → A → List A → Type 0
Has x [] = ⊥
Has x (y ∷ ys) = (x ≡ y) ⊎ Has x ys

-- each of these has the property
abbrev pub Throughout : {A : Type 0} → (A → Type 0) → List A → Type 0
Throughout P [] = ⊤
Throughout P (x ∷ xs) = P x × Throughout P xs

-- a done step with this index offered a row
pub record OfferedBy (ds : List DoneStep) (r : Row) (i : ℕ) : Type 0 where
  pub done : DoneStep
  pub there : Has done ds
  pub index : done.index ≡ i
  pub row : Has r (rows_by done)

-- a row stood in the first bag, or this done step offered it
abbrev pub ComesFrom : Bag → List DoneStep → Row → Option ℕ → Type 0
ComesFrom b ds r None = Has r (standing b)
ComesFrom b ds r (Some i) = OfferedBy ds r i

-- what is kept of a row is right after these done steps
pub record IsSeen (b : Bag) (ds : List DoneStep) (q : SeenRow) : Type 0 where
  pub origin : ComesFrom b ds q.row q.from
  pub count : q.done ≡ count_by (names_id q.row.id) (done_steps ds)

-- a row stood there from the start, or a step below this index offered it
abbrev pub IsFromBelow : Option ℕ → ℕ → Type 0
IsFromBelow None i = ⊤
IsFromBelow (Some j) i = j < i

-- each of these rows was offered below a step, which stands in the log after these, and that step is its next use: as many done steps name it as steps before this one
pub record IsTheirTurn (before : List Step) (qs : List SeenRow) : Type 0 where
  pub lower : Throughout (λ q. IsFromBelow q.from (length before)) qs
  pub next : Throughout (λ q. q.done ≡ count_by (names_id q.row.id) before) qs

-- what is kept of the rows that a step names tells exactly whether it is its turn
abbrev pub SeenTellTurns : Type 0
SeenTellTurns = (deploy : Deploy) (w : Work) (ss : List Step) (r : Replay) → IsFresh deploy.rows w r.done → Replays deploy.prices deploy.limit (first_bag deploy.rows w) ss r
    → (before : List Step) (s : Step) (after : List Step) → ss ≡ before ++ s ∷ after → (qs : List SeenRow) → names s ≡ ids_of (bare qs) → Throughout (IsSeen (first_bag deploy.rows w) r.done) qs
    → (is_due (first_bag deploy.rows w) r.done before s ≡ true) ↔ IsTheirTurn before qs
