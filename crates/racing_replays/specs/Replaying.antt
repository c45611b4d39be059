-- Replays of a log by many workers: its steps are done in any order that each row's uses allow.
use Rattle.std.specs.Prelude.{◌≡◌, ℕ, zero, suc, Bool, true, false, cond, not, ◌&&◌, ◌||◌, eqb, ltb, List, [], ◌∷◌, ◌++◌, length, map as each, flat_map, Option, Some, None, option_map, option_and_then}
use Rattle.calculus.specs.Outcome.{Prices}
use Rattle.calculus.specs.Log.{Step}
use Rattle.calculus.specs.Rows.{Row}
use Rattle.calculus.specs.Unfolding.{rows_of}
use Rattle.calculus.specs.Steps.{Bag, Meeting, standing, is_one_of, meeting, printed_line, bag_after}
use Rattle.calculus.specs.Runs.{Work, work_products, body_work}

-- a step of the log that is done: its index, the step, what its body came to, and what it printed
pub record DoneStep : Type 0 where
  pub index : ℕ
  pub step : Step
  pub work : Work
  pub printed : List ℕ

-- a replay so far: the bag, and what is done in the order in which it was done
pub record Replay : Type 0 where
  pub bag : Bag
  pub done : List DoneStep

-- a replay before its first step, from this bag
abbrev pub first_replay : Bag → Replay
first_replay b = record { bag = b; done = [] }

-- the steps that are done, in that order
abbrev pub done_steps : List DoneStep → List Step
done_steps ds = each (λ d. d.step) ds

-- the rows that a done step offered
abbrev pub rows_by : DoneStep → List Row
rows_by d = rows_of (work_products d.work)

-- whether the step with this index is done
abbrev pub is_done : ℕ → List DoneStep → Bool
is_done i [] = false
is_done i (d ∷ ds) = eqb i d.index || is_done i ds

-- the ids that a step names
abbrev pub names : Step → List (List ℕ)
names s = s.receiver ∷ s.data_ids

-- the ids of rows
abbrev pub ids_of : List Row → List (List ℕ)
ids_of rs = each (λ r. r.id) rs

-- the ids of the rows that stood in the first bag or were offered by a done step with an index below i
abbrev pub ids_before : Bag → ℕ → List DoneStep → List (List ℕ)
ids_before b i ds = ids_of (standing b) ++ flat_map (λ d. cond (ltb d.index i) (ids_of (rows_by d)) []) ds

-- whether each of these ids is one of those
abbrev pub all_among : List (List ℕ) → List (List ℕ) → Bool
all_among [] ys = true
all_among (x ∷ xs) ys = is_one_of x ys && all_among xs ys

-- whether some of these ids is one of those
abbrev pub any_among : List (List ℕ) → List (List ℕ) → Bool
any_among [] ys = false
any_among (x ∷ xs) ys = is_one_of x ys || any_among xs ys

-- whether each of these steps, of which the first has the index j, is done if it names one of these ids
abbrev pub all_done : List DoneStep → List (List ℕ) → ℕ → List Step → Bool
all_done ds xs j [] = true
all_done ds xs j (u ∷ us) = (not (any_among xs (names u)) || is_done j ds) && all_done ds xs (suc j) us

-- whether it is the turn of a step that stands in the log after these: it is not done, each row that it names was given before its index, and each step before it that names one of these rows is done
abbrev pub is_due : Bag → List DoneStep → List Step → Step → Bool
is_due b ds before s = not (is_done (length before) ds) && (all_among (names s) (ids_before b (length before) ds) && all_done ds (names s) 0 before)

-- a replay after one more step with this index, which is made so and whose body comes to this
abbrev pub after_step : Replay → ℕ → Step → Meeting → Work → Replay
after_step r i s m w = record { bag = bag_after r.bag m (rows_of (work_products w)); done = r.done ++ record { index = i; step = s; work = w; printed = printed_line r.bag m } ∷ [] }

-- a step of the log is done: it is its turn, and it is allowed in the bag after the steps that are done
pub record Does (p : Prices) (cap : ℕ) (b : Bag) (ss : List Step) (r q : Replay) : Type 0 where
  pub before : List Step
  pub step : Step
  pub after : List Step
  pub log : ss ≡ before ++ step ∷ after
  pub due : is_due b r.done before step ≡ true
  pub found : Meeting
  pub allowed : meeting r.bag (done_steps r.done) step ≡ Some found
  pub room : ℕ
  pub work : Work
  pub works : body_work p cap room step found ≡ Some work
  pub is : q ≡ after_step r (length before) step found work

-- steps of a log are done one after another, from a bag on
pub data Replays (p : Prices) (cap : ℕ) (b : Bag) (ss : List Step) : Replay → Type 0 where
  none_yet : Replays p cap b ss (first_replay b)
  one_more : {r q : Replay} → Replays p cap b ss r → Does p cap b ss r q → Replays p cap b ss q

-- no step of the log may be done
abbrev pub IsMaximal : Bag → List Step → Replay → Type 0
IsMaximal b ss r = (before : List Step) (s : Step) (after : List Step) → ss ≡ before ++ s ∷ after → is_due b r.done before s ≡ true → meeting r.bag (done_steps r.done) s ≡ None

-- a step is done where it is allowed, and left out else
abbrev pub after_meeting : Prices → ℕ → ℕ → Replay → ℕ → Step → Option Meeting → Option Replay
after_meeting p cap room r i s None = Some r
after_meeting p cap room r i s (Some m) = option_map (after_step r i s m) (body_work p cap room s m)

-- the step that stands in the log after these is tried: done where it may be, and left out else
abbrev pub after_try : Prices → ℕ → ℕ → Bag → List Step → Step → Replay → Option Replay
after_try p cap room b before s r = cond (is_due b r.done before s) (after_meeting p cap room r (length before) s (meeting r.bag (done_steps r.done) s)) (Some r)

-- these steps, which stand in the log after those, are tried once in order
abbrev pub walk_from : Prices → ℕ → ℕ → Bag → List Step → List Step → Replay → Option Replay
walk_from p cap room b before [] r = Some r
walk_from p cap room b before (s ∷ after) r = option_and_then (λ q. walk_from p cap room b (before ++ s ∷ []) after q) (after_try p cap room b before s r)

-- the steps of a log are tried once in order, where this room is enough
abbrev pub walk : Prices → ℕ → ℕ → Bag → List Step → Option Replay
walk p cap room b ss = walk_from p cap room b [] ss (first_replay b)

-- a walk over a log comes to this
abbrev pub Walks : Prices → ℕ → Bag → List Step → Replay → Type 0
Walks p cap b ss k = (room : ℕ) × walk p cap room b ss ≡ Some k

-- what is done of the step with this index
abbrev pub done_at : ℕ → List DoneStep → List DoneStep
done_at i [] = []
done_at i (d ∷ ds) = cond (eqb i d.index) (d ∷ []) (done_at i ds)

-- what is done of the steps with indices below n, in the order of the log
abbrev pub in_order : ℕ → List DoneStep → List DoneStep
in_order zero ds = []
in_order (suc n) ds = in_order n ds ++ done_at n ds
