-- Rows that fit a step of a log, by what is kept of them.
use Rattle.std.specs.Prelude.{◌≡◌, ◌↔◌, true, ◌&&◌, ◌||◌, eqb, List, [], ◌∷◌, ◌++◌, count_by, Some, None}
use Rattle.calculus.specs.Log.{Step}
use Rattle.calculus.specs.Steps.{Meeting, differ, same_meeting, meeting}
use Rattle.calculus.specs.Runs.{Deploy, Work}
use Rattle.events.specs.Events.{stored}
use Rattle.events.specs.Found.{met, is_lasting}
use Rattle.racing_replays.specs.Replaying.{names, ids_of, is_due}
use Rattle.racing_replays.specs.Racing.{RacingState, Races}
use Rattle.racing_replays.specs.Laws.{first_bag, IsFresh}
use Rattle.racing_replays.specs.Possible.{HaveArrived, Fits}
use Rattle.replay_space.specs.Kept.{SeenRow, bare, Throughout, IsSeen, IsTheirTurn}

-- Rows fit a step that stands in the log after these: they have the ids that it names, those of its data differ, and they meet; the step is the next use of each, and none was offered by a
-- step that is not below it; and its repeat number is how often it stands before itself, and 0 unless no row leaves.
pub record FitsStep (before : List Step) (s : Step) (qs : List SeenRow) (m : Meeting) : Type 0 where
  pub named : names s ≡ ids_of (bare qs)
  pub differs : differ s.data_ids ≡ true
  pub meets : met (bare qs) ≡ Some m
  pub turn : IsTheirTurn before qs
  pub repeats : eqb s.repeat (count_by (same_meeting s) before) && (eqb s.repeat 0 || is_lasting m) ≡ true

-- rows do not fit a step
abbrev pub FitsNone : List Step → Step → List SeenRow → Type 0
FitsNone before s qs = (m : Meeting) → FitsStep before s qs m → ⊥

-- What has arrived in a replay and is kept rightly fits a step exactly where it is the step's turn and the rows fit it, so that a worker may make it; no worker may where none fit.
abbrev pub FitsTellDoings : Type 0
FitsTellDoings = (deploy : Deploy) (w : Work) (ss : List Step) (c : RacingState)
    → IsFresh deploy.rows w c.done → ((s : Step) → meeting (stored deploy.rows) [] s ≡ None) → Races deploy w ss c
    → (before : List Step) (s : Step) (after : List Step) → ss ≡ before ++ s ∷ after → (qs : List SeenRow) → Throughout (IsSeen (first_bag deploy.rows w) c.done) qs → HaveArrived c.store (bare qs)
    → (m : Meeting) → FitsStep before s qs m ↔ ((is_due (first_bag deploy.rows w) c.done before s ≡ true) × Fits c.store before s (bare qs) m)
