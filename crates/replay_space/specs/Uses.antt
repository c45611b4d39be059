-- The uses of an id have places, by which a worker tells whether a step is a row's next use.
use Rattle.std.specs.Prelude.{◌≡◌, ◌↔◌, ℕ, suc, true, List, [], ◌∷◌, ◌++◌, length, count_by, slice_get, Option, Some, None}
use Rattle.calculus.specs.Log.{Step}
use Rattle.racing_replays.specs.Racing.{next_use}
use Rattle.racing_replays.specs.Counted.{names_id, uses, IsUseAt}

-- one of these or none
abbrev pub one_or_none : Option ℕ → List ℕ
one_or_none None = []
one_or_none (Some i) = i ∷ []

-- A use at a place is the member of the list of uses at that place. A step that names an id is its use at the place that is the number of steps before it which name the id, and at no
-- other. The next use after it is the one at the next place, and an id's first use is the one at the place 0.
pub record Places (x : List ℕ) (ss : List Step) : Type 0 where
  pub at_place : (n index : ℕ) → IsUseAt x n ss index ↔ (slice_get (uses x 0 ss) n ≡ Some index)
  pub place : (before : List Step) (s : Step) (after : List Step) → ss ≡ before ++ s ∷ after → names_id x s ≡ true → (n : ℕ) → (slice_get (uses x 0 ss) n ≡ Some (length before)) ↔ (n ≡ count_by (names_id x) before)
  pub first : next_use x 0 0 ss ≡ one_or_none (slice_get (uses x 0 ss) 0)
  pub next : (before : List Step) (s : Step) (after : List Step) → ss ≡ before ++ s ∷ after → names_id x s ≡ true → next_use x (suc (length before)) 0 ss ≡ one_or_none (slice_get (uses x 0 ss) (suc (count_by (names_id x) before)))

abbrev pub UsesHavePlaces : Type 0
UsesHavePlaces = (x : List ℕ) (ss : List Step) → Places x ss
