-- Events of a replay by workers: a row arrives, a step is done, or a try is idle.
use Rattle.std.specs.Prelude.{◌≡◌, ℕ, suc, true, cond, leb, ◌&&◌, List, [], ◌∷◌, ◌++◌, length, flat_map, Some, None}
use Rattle.calculus.specs.Outcome.{Prices}
use Rattle.calculus.specs.Log.{Step}
use Rattle.calculus.specs.Rows.{Row}
use Rattle.calculus.specs.Unfolding.{rows_of}
use Rattle.calculus.specs.Steps.{Bag, Meeting, standing, is_one_of, meeting, printed_line, bag_after}
use Rattle.calculus.specs.Runs.{Deploy, Work, work_products, body_work}
use Rattle.events.specs.Events.{stored}
use Rattle.racing_replays.specs.Replaying.{DoneStep, done_steps, names, ids_of, is_due}
use Rattle.racing_replays.specs.Laws.{first_bag}

-- the rows that have arrived, those that are to arrive, the indices that are to be tried, and the steps that are done, in order
pub record RacingState : Type 0 where
  pub store : List Row
  pub arriving : List Row
  pub tries : List ℕ
  pub done : List DoneStep

-- before the first event: a checkpoint's rows, and what the source offers is to arrive
abbrev pub racing_start : List Row → Work → RacingState
racing_start rows w = record { store = rows; arriving = rows_of (work_products w); tries = []; done = [] }

-- the first step from index i on that names this id, where the first of these steps has the index j
abbrev pub next_use : List ℕ → ℕ → ℕ → List Step → List ℕ
next_use x i j [] = []
next_use x i j (s ∷ ss) = cond (leb i j && is_one_of x (names s)) (j ∷ []) (next_use x i (suc j) ss)

-- the next uses of the named rows that stay, after the step with index i
abbrev pub later_uses : List Step → ℕ → List Row → List (List ℕ) → List ℕ
later_uses ss i left xs = flat_map (λ x. cond (is_one_of x (ids_of left)) (next_use x (suc i) 0 ss) []) xs

-- a row arrives, and its first use is to be tried
pub record Arrives (ss : List Step) (c d : RacingState) : Type 0 where
  pub row : Row
  pub before : List Row
  pub after : List Row
  pub arriving : c.arriving ≡ before ++ row ∷ after
  pub is : d ≡ record { store = c.store ++ row ∷ []; arriving = before ++ after; tries = c.tries ++ next_use row.id 0 0 ss; done = c.done }

-- what has arrived after a meeting
abbrev pub rest_after : List Row → Meeting → List Row
rest_after rows m = (bag_after (stored rows) m []).kept

-- a step that is to be tried is done, with rows that have arrived; what its body offers is to arrive, and the next use of each named row that stays is to be tried
pub record Finishes (p : Prices) (cap : ℕ) (b : Bag) (ss : List Step) (c d : RacingState) : Type 0 where
  pub before : List Step
  pub step : Step
  pub after : List Step
  pub log : ss ≡ before ++ step ∷ after
  pub pre : List ℕ
  pub post : List ℕ
  pub tries : c.tries ≡ pre ++ length before ∷ post
  pub due : is_due b c.done before step ≡ true
  pub found : Meeting
  pub allowed : meeting (stored c.store) (done_steps c.done) step ≡ Some found
  pub room : ℕ
  pub work : Work
  pub works : body_work p cap room step found ≡ Some work
  pub is : d ≡ record {
    store = rest_after c.store found;
    arriving = c.arriving ++ rows_of (work_products work);
    tries = (pre ++ post) ++ later_uses ss (length before) (standing (stored (rest_after c.store found))) (names step);
    done = c.done ++ record { index = length before; step = step; work = work; printed = printed_line (stored c.store) found } ∷ [];
  }

-- a try ends where its step may not be done
pub record Idles (b : Bag) (ss : List Step) (c d : RacingState) : Type 0 where
  pub index : ℕ
  pub pre : List ℕ
  pub post : List ℕ
  pub tries : c.tries ≡ pre ++ index ∷ post
  pub may_not : (before : List Step) (s : Step) (after : List Step) → ss ≡ before ++ s ∷ after → length before ≡ index → is_due b c.done before s ≡ true → meeting (stored c.store) (done_steps c.done) s ≡ None
  pub is : d ≡ record { store = c.store; arriving = c.arriving; tries = pre ++ post; done = c.done }

-- events of a replay of a log lead from the first state to another
pub data Races (deploy : Deploy) (w : Work) (ss : List Step) : RacingState → Type 0 where
  no_event : Races deploy w ss (racing_start deploy.rows w)
  arrival : {c d : RacingState} → Races deploy w ss c → Arrives ss c d → Races deploy w ss d
  done_index : {c d : RacingState} → Races deploy w ss c → Finishes deploy.prices deploy.limit (first_bag deploy.rows w) ss c d → Races deploy w ss d
  idle_try : {c d : RacingState} → Races deploy w ss c → Idles (first_bag deploy.rows w) ss c d → Races deploy w ss d
