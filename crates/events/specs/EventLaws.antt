-- What a list of events comes to.
use Rattle.std.specs.Prelude.{◌≡◌, ◌≢◌, ◌⊎◌, ℕ, true, false, List, [], ◌∷◌, ◌++◌, map, flat_map, Some, None, All, IsPermutation}
use Rattle.calculus.specs.Tree.{Tree}
use Rattle.calculus.specs.Outcome.{Prices}
use Rattle.calculus.specs.Log.{Step}
use Rattle.calculus.specs.Rows.{Row}
use Rattle.calculus.specs.Unfolding.{rows_of, Unfolds}
use Rattle.calculus.specs.Steps.{Receiver, Datum, Meeting, is_one_of, differ, meeting, standing, stored_rows, as_receiver, as_datum, stays, peeks}
use Rattle.calculus.specs.Runs.{source_seed, deploy_of, Deploy, Work, work_products, State, body_work, Leads, IsLegal, done, verdict, IsRun}
use Rattle.events.specs.Events.{Core, started, stored, after_put, Event, Events, first_ids, AreFresh, FreshDigests}
use Rattle.events.specs.Found.{met, Among, AreAtHand, is_lasting, after_meeting, step_of}
use Rattle.events.specs.Spending.{spent_ids, IsSpentBy}

-- the steps of a core lead to a state with its works and its output, whose rows are those stored and pending, and no step is allowed among the stored ones
pub record Follows (deploy : Deploy) (c : Core) : Type 0 where
  pub state : State
  pub leads : Leads deploy c.made state
  pub works : state.works ≡ c.works
  pub output : state.output ≡ c.output
  pub same_rows : IsPermutation (stored_rows state.bag) (c.store ++ c.pending)
  pub quiet : (s : Step) → meeting (stored c.store) c.made s ≡ None

-- events begin at a checkpoint that allows no step, with what a process offers
pub record Begins (deploy : Deploy) (w : Work) : Type 0 where
  pub unfolds : Unfolds deploy.prices deploy.limit deploy.process (source_seed deploy) w
  pub quiet : (s : Step) → meeting (stored deploy.rows) [] s ≡ None

-- the steps of any list of events are a legal list, under fresh digests
abbrev pub EventsAreLegal : Type 0
EventsAreLegal = (deploy : Deploy) (w : Work) (c : Core)
    → Begins deploy w → Events deploy.prices deploy.limit (started deploy.rows w) c → AreFresh deploy c.made → Follows deploy c

-- once nothing is pending, or the verdict is not done, they are a run
abbrev pub EndedEventsAreARun : Type 0
EndedEventsAreARun = (deploy : Deploy) (w : Work) (c : Core)
    → Begins deploy w → Events deploy.prices deploy.limit (started deploy.rows w) c → AreFresh deploy c.made
    → (f : Follows deploy c) → (c.pending ≡ []) ⊎ (verdict deploy.prices deploy.limit f.state ≢ done) → IsRun deploy c.made f.state

-- rows at hand that meet make the next step of these rows; where one of them leaves, that step was not made before
abbrev pub MeetingsAreSteps : Type 0
MeetingsAreSteps = (deploy : Deploy) (w : Work) (c : Core)
    → Begins deploy w → Events deploy.prices deploy.limit (started deploy.rows w) c → AreFresh deploy c.made
    → (operation : Row) (before after : List Row) → c.pending ≡ before ++ operation ∷ after
    → (r : Row) (ds : List Row) → AreAtHand c.store operation (r ∷ ds) → Among operation (r ∷ ds) → differ (map (λ d. d.id) ds) ≡ true
    → (m : Meeting) → met (r ∷ ds) ≡ Some m → (v : Work) (room : ℕ) → body_work deploy.prices deploy.limit room (step_of c.made r ds) m ≡ Some v
    → Event deploy.prices deploy.limit c (after_meeting c operation before after (r ∷ ds) m (step_of c.made r ds) v) × (is_lasting m ≡ false → (step_of c.made r ds).repeat ≡ 0)

-- an operation that meets no rows at hand may be stored
abbrev pub LonelyOperationsAreStored : Type 0
LonelyOperationsAreStored = (deploy : Deploy) (w : Work) (c : Core)
    → Begins deploy w → Events deploy.prices deploy.limit (started deploy.rows w) c → AreFresh deploy c.made
    → (operation : Row) (before after : List Row) → c.pending ≡ before ++ operation ∷ after
    → ((r : Row) (ds : List Row) → AreAtHand c.store operation (r ∷ ds) → Among operation (r ∷ ds) → differ (map (λ d. d.id) ds) ≡ true → met (r ∷ ds) ≡ None)
    → Event deploy.prices deploy.limit c (after_put c operation before after)

-- no row's id is offered twice along a legal list, and none is offered that stood there before, under fresh digests
abbrev pub IdsAreOfferedOnce : Type 0
IdsAreOfferedOnce = (deploy : Deploy) (ss : List Step) (a : State)
    → Leads deploy ss a → AreFresh deploy ss
    → differ (first_ids deploy.rows ++ map (λ r. r.id) (flat_map (λ w. rows_of (work_products w)) a.works)) ≡ true

-- where ids, names and those of what is built in are fresh, the ids and names alone are
abbrev pub FreshDigestsAreFresh : Type 0
FreshDigestsAreFresh = (p : Prices) (cap : ℕ) (t : Tree) (source : List ℕ) (ss : List Step) → FreshDigests p cap t source ss → AreFresh (deploy_of p cap [] t source) ss

-- what a step of a legal list spends is named by no later step, under fresh digests
abbrev pub SpentIdsAreGone : Type 0
SpentIdsAreGone = (deploy : Deploy) (before after : List Step) (s : Step) (id : List ℕ)
    → IsLegal deploy (before ++ s ∷ after) → AreFresh deploy (before ++ s ∷ after)
    → IsSpentBy deploy before s id → All (λ u. is_one_of id (u.receiver ∷ u.data_ids) ≡ false) after

-- so no id is spent by two steps of a legal list, under fresh digests
abbrev pub IdsAreSpentOnce : Type 0
IdsAreSpentOnce = (deploy : Deploy) (before between after : List Step) (s u : Step) (id : List ℕ)
    → IsLegal deploy (before ++ s ∷ (between ++ u ∷ after)) → AreFresh deploy (before ++ s ∷ (between ++ u ∷ after))
    → IsSpentBy deploy before s id → IsSpentBy deploy (before ++ s ∷ between) u id → ⊥

-- which rows these are, under fresh digests: a step spends the id of a row at hand that is its receiver, linear or peeking, and of one that is a linear datum, where its receiver does not peek
abbrev pub TakenRowsAreSpent : Type 0
TakenRowsAreSpent = (deploy : Deploy) (ss : List Step) (a : State)
    → Leads deploy ss a → AreFresh deploy ss
    → (s : Step) (m : Meeting) → meeting a.bag a.made s ≡ Some m → (r : Row) → Among r (standing a.bag)
    → ((c : Receiver) → as_receiver r.part ≡ Some c → stays c.kind ≡ false → s.receiver ≡ r.id → is_one_of r.id (spent_ids s m) ≡ true)
    × ((d : Datum) → as_datum r.part ≡ Some d → d.persistent ≡ false → is_one_of r.id s.data_ids ≡ true → peeks m.receiver.kind ≡ false → is_one_of r.id (spent_ids s m) ≡ true)
