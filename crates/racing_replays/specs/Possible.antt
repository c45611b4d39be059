-- How a worker makes events of the rows that it finds.
use Rattle.std.specs.Prelude.{◌≡◌, ⊤, ℕ, true, ◌&&◌, ◌||◌, eqb, List, [], ◌∷◌, ◌++◌, length, count_by, None, Some}
use Rattle.calculus.specs.Log.{Step}
use Rattle.calculus.specs.Rows.{Row, stdout, stdout_ack}
use Rattle.calculus.specs.Unfolding.{rows_of}
use Rattle.calculus.specs.Steps.{Meeting, standing, differ, same_meeting, meeting}
use Rattle.calculus.specs.Runs.{Deploy, Work, work_products, body_work}
use Rattle.events.specs.Events.{stored}
use Rattle.events.specs.Found.{met, leaving_rows, without, Among, is_lasting, printed_by}
use Rattle.racing_replays.specs.Replaying.{names, ids_of, is_due}
use Rattle.racing_replays.specs.Laws.{first_bag, IsFresh}
use Rattle.racing_replays.specs.Racing.{RacingState, later_uses, Finishes, Idles, Races}

-- each of these rows has arrived or is built in
abbrev pub HaveArrived : List Row → List Row → Type 0
HaveArrived store [] = ⊤
HaveArrived store (r ∷ rs) = Among r (store ++ (stdout ∷ stdout_ack ∷ [])) × HaveArrived store rs

-- rows that have arrived fit a step that stands in the log after these: they have the ids that it names and meet, and its repeat number is how often it stands before, and 0 unless no row leaves
pub record Fits (store : List Row) (before : List Step) (s : Step) (rows : List Row) (m : Meeting) : Type 0 where
  pub named : names s ≡ ids_of rows
  pub arrived : HaveArrived store rows
  pub differs : differ s.data_ids ≡ true
  pub meets : met rows ≡ Some m
  pub repeats : eqb s.repeat (count_by (same_meeting s) before) && (eqb s.repeat 0 || is_lasting m) ≡ true

-- what is left of a store after these rows met
abbrev pub rest_of : List Row → List Row → Meeting → List Row
rest_of store rows m = without (ids_of (leaving_rows m.receiver.kind m.sends rows)) store

-- the state after these rows met in the step with index i, whose body came to this work and whose try stood between these
abbrev pub after_finish : List Step → RacingState → List ℕ → List ℕ → ℕ → Step → List Row → Meeting → Work → RacingState
after_finish ss c pre post i s rows m w = record {
  store = rest_of c.store rows m;
  arriving = c.arriving ++ rows_of (work_products w);
  tries = (pre ++ post) ++ later_uses ss i (standing (stored (rest_of c.store rows m))) (names s);
  done = c.done ++ record { index = i; step = s; work = w; printed = printed_by rows m } ∷ [];
}

-- a step whose turn it is and that rows fit is done
abbrev pub FittingStepsAreDone : Type 0
FittingStepsAreDone = (deploy : Deploy) (w : Work) (ss : List Step) (c : RacingState)
    → IsFresh deploy.rows w c.done → ((s : Step) → meeting (stored deploy.rows) [] s ≡ None) → Races deploy w ss c
    → (pre post : List ℕ) (before : List Step) (s : Step) (after : List Step) → ss ≡ before ++ s ∷ after → c.tries ≡ pre ++ length before ∷ post
    → is_due (first_bag deploy.rows w) c.done before s ≡ true → (qs : List Row) (m : Meeting) → Fits c.store before s qs m
    → (room : ℕ) (v : Work) → body_work deploy.prices deploy.limit room s m ≡ Some v → Finishes deploy.prices deploy.limit (first_bag deploy.rows w) ss c (after_finish ss c pre post (length before) s qs m v)

-- a try is idle where it is not its step's turn or no rows fit
abbrev pub OtherTriesAreIdle : Type 0
OtherTriesAreIdle = (deploy : Deploy) (w : Work) (ss : List Step) (c : RacingState)
    → IsFresh deploy.rows w c.done → ((s : Step) → meeting (stored deploy.rows) [] s ≡ None) → Races deploy w ss c
    → (pre : List ℕ) (i : ℕ) (post : List ℕ) → c.tries ≡ pre ++ i ∷ post
    → ((before : List Step) (s : Step) (after : List Step) → ss ≡ before ++ s ∷ after → length before ≡ i → is_due (first_bag deploy.rows w) c.done before s ≡ true → (qs : List Row) (m : Meeting) → Fits c.store before s qs m → ⊥)
    → Idles (first_bag deploy.rows w) ss c (record { store = c.store; arriving = c.arriving; tries = pre ++ post; done = c.done })
