-- Counts by which a worker sees that it is a step's turn.
use Rattle.std.specs.Prelude.{◌≡◌, ◌↔◌, ℕ, suc, Bool, true, false, cond, List, [], ◌∷◌, ◌++◌, length, count_by}
use Rattle.calculus.specs.Log.{Step}
use Rattle.calculus.specs.Steps.{is_one_of, same_meeting}
use Rattle.calculus.specs.Runs.{Deploy, Work}
use Rattle.racing_replays.specs.Replaying.{Replay, done_steps, is_done, names, all_done, is_due, Replays}
use Rattle.racing_replays.specs.Laws.{first_bag, IsFresh}

-- whether a step names an id
abbrev pub names_id : List ℕ → Step → Bool
names_id x s = is_one_of x (names s)

-- a step is not done and each before it that names one of its rows is, exactly where for each of its rows as many done steps name it as steps before it in the log: it is each row's next use
abbrev pub UsesAreCounted : Type 0
UsesAreCounted = (deploy : Deploy) (w : Work) (ss : List Step) (r : Replay) → IsFresh deploy.rows w r.done → Replays deploy.prices deploy.limit (first_bag deploy.rows w) ss r
    → (before : List Step) (s : Step) (after : List Step) → ss ≡ before ++ s ∷ after
    → (is_done (length before) r.done ≡ false × all_done r.done (names s) 0 before ≡ true) ↔ ((x : List ℕ) → names_id x s ≡ true → count_by (names_id x) (done_steps r.done) ≡ count_by (names_id x) before)

-- where it is a step's turn, it was made as often as it stands before itself in the log
abbrev pub RepeatsAreCounted : Type 0
RepeatsAreCounted = (deploy : Deploy) (w : Work) (ss : List Step) (r : Replay) → IsFresh deploy.rows w r.done → Replays deploy.prices deploy.limit (first_bag deploy.rows w) ss r
    → (before : List Step) (s : Step) (after : List Step) → ss ≡ before ++ s ∷ after → is_due (first_bag deploy.rows w) r.done before s ≡ true
    → count_by (same_meeting s) (done_steps r.done) ≡ count_by (same_meeting s) before

-- the indices of the steps that name an id, ascending, where the first of these steps has the index j
abbrev pub uses : List ℕ → ℕ → List Step → List ℕ
uses x j [] = []
uses x j (s ∷ ss) = cond (names_id x s) (j ∷ uses x (suc j) ss) (uses x (suc j) ss)

-- the use of an id that stands at place n among those in a log is this index
pub record IsUseAt (x : List ℕ) (n : ℕ) (ss : List Step) (index : ℕ) : Type 0 where
  pub lower : List ℕ
  pub later : List ℕ
  pub is : uses x 0 ss ≡ lower ++ index ∷ later
  pub place : length lower ≡ n

-- a step is not done and each before it that names one of its rows is, exactly where it is the use of each of its rows at the place that is the number of done steps which name the row
abbrev pub TurnsAreNextUses : Type 0
TurnsAreNextUses = (deploy : Deploy) (w : Work) (ss : List Step) (r : Replay) → IsFresh deploy.rows w r.done → Replays deploy.prices deploy.limit (first_bag deploy.rows w) ss r
    → (before : List Step) (s : Step) (after : List Step) → ss ≡ before ++ s ∷ after
    → (is_done (length before) r.done ≡ false × all_done r.done (names s) 0 before ≡ true) ↔ ((x : List ℕ) → names_id x s ≡ true → IsUseAt x (count_by (names_id x) (done_steps r.done)) ss (length before))
