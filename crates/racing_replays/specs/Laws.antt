-- What replays by many workers come to.
use Rattle.std.specs.Prelude.{◌≡◌, ◌<◌, ◌↔◌, ℕ, true, false, List, ◌∷◌, ◌++◌, length, map as each, flat_map, Some, IsSome, IsPermutation}
use Rattle.calculus.specs.Log.{Step}
use Rattle.calculus.specs.Rows.{Row}
use Rattle.calculus.specs.Unfolding.{Unfolds}
use Rattle.calculus.specs.Steps.{Bag, Meeting, differ, meeting, stored_rows}
use Rattle.calculus.specs.Runs.{Deploy, source_seed, Work, State, begun, Leads, total}
use Rattle.events.specs.Events.{first_ids, digests, AreFresh}
use Rattle.replays.specs.Replays.{StopsAt, Outcome, outcome_of}
use Rattle.racing_replays.specs.Replaying.{DoneStep, Replay, done_steps, is_done, is_due, Replays, IsMaximal, Walks, in_order}

-- the bag before the first step: a checkpoint's rows, and what the source offers
abbrev pub first_bag : List Row → Work → Bag
first_bag rows w = (begun rows w).bag

-- the state of this bag that done steps have come to, in this order, where the source came to this work
abbrev pub state_with : Work → Bag → List DoneStep → State
state_with w b ds = record { bag = b; made = done_steps ds; works = w ∷ each (λ d. d.work) ds; output = flat_map (λ d. d.printed) ds }

-- the state that the steps done so far have come to, in the order in which they were done
abbrev pub state_of : Work → Replay → State
state_of w r = state_with w r.bag r.done

-- the same told in the order of the log: the steps, their work and what they printed by their indices
abbrev pub logged_state : Work → List Step → Replay → State
logged_state w ss r = state_with w r.bag (in_order (length ss) r.done)

-- the digests that the source and these steps made are fresh: no two of the ids that stood there before and the ids and names made are equal
abbrev pub IsFresh : List Row → Work → List DoneStep → Type 0
IsFresh rows w ds = differ (first_ids rows ++ digests (w ∷ each (λ d. d.work) ds)) ≡ true

-- a walk over a log from a checkpoint and the source's work, of which the digests are fresh
pub record FreshWalk (deploy : Deploy) (w : Work) (ss : List Step) (k : Replay) : Type 0 where
  pub walks : Walks deploy.prices deploy.limit (first_bag deploy.rows w) ss k
  pub fresh : IsFresh deploy.rows w k.done

-- a replay of a log that can't go on
pub record FullReplay (deploy : Deploy) (w : Work) (ss : List Step) (r : Replay) : Type 0 where
  pub replays : Replays deploy.prices deploy.limit (first_bag deploy.rows w) ss r
  pub maximal : IsMaximal (first_bag deploy.rows w) ss r

-- two replays of a log did the same steps with the same work and lines, up to order, and so what they did is told alike in the order of the log; and they end with the same rows, up to order
pub record Agree (ss : List Step) (r k : Replay) : Type 0 where
  pub same_done : IsPermutation r.done k.done
  pub same_order : in_order (length ss) r.done ≡ in_order (length ss) k.done
  pub same_rows : IsPermutation (stored_rows r.bag) (stored_rows k.bag)

-- a walk is itself a replay that can't go on, and every replay that can't go on agrees with it, under fresh digests
abbrev pub Confluence : Type 0
Confluence = (deploy : Deploy) (w : Work) (ss : List Step) (k : Replay) → FreshWalk deploy w ss k
    → FullReplay deploy w ss k × ((r : Replay) → FullReplay deploy w ss r → Agree ss r k)

-- the steps that a replay does are a legal list in the order in which it does them, and lead to its bag
abbrev pub ReplaysAreLegal : Type 0
ReplaysAreLegal = (deploy : Deploy) (w : Work) (ss : List Step) (r : Replay)
    → Unfolds deploy.prices deploy.limit deploy.process (source_seed deploy) w → Replays deploy.prices deploy.limit (first_bag deploy.rows w) ss r → Leads deploy (done_steps r.done) (state_of w r)

-- each step of a log is done
abbrev pub AreAllDone : List Step → Replay → Type 0
AreAllDone ss r = (i : ℕ) → i < length ss → is_done i r.done ≡ true

-- the step with this index is the first that is not done
pub record IsFirstLeft (i : ℕ) (r : Replay) : Type 0 where
  pub left : is_done i r.done ≡ false
  pub least : (j : ℕ) → j < i → is_done j r.done ≡ true

-- two outcomes are alike: the same verdict, cost and output, and the same rows up to order
pub record AreAlikeOutcomes (o q : Outcome) : Type 0 where
  pub verdict : o.verdict ≡ q.verdict
  pub cost : o.cost ≡ q.cost
  pub rows : IsPermutation o.rows q.rows
  pub output : o.output ≡ q.output

-- a replay came to a state: the same steps, work and output, told in the order of the log, and the same rows up to order; so the same total, a like outcome, and the same steps that are allowed
pub record ComesTo (deploy : Deploy) (w : Work) (ss : List Step) (r : Replay) (a : State) : Type 0 where
  pub steps : (logged_state w ss r).made ≡ a.made
  pub works : (logged_state w ss r).works ≡ a.works
  pub output : (logged_state w ss r).output ≡ a.output
  pub same_rows : IsPermutation (stored_rows r.bag) (stored_rows a.bag)
  pub same_total : total deploy.prices deploy.limit (logged_state w ss r) ≡ total deploy.prices deploy.limit a
  pub outcome : AreAlikeOutcomes (outcome_of deploy (logged_state w ss r)) (outcome_of deploy a)
  pub allowed : (s : Step) → IsSome (meeting r.bag (done_steps r.done) s) ↔ IsSome (meeting a.bag a.made s)

-- what a log's steps come to in a replay that can't go on, under fresh digests: where they are a legal list, the walk ends in the list's state, and each step is done and the replay came to that state; where they are legal up to a step and no further, that step is the first that is not done
abbrev pub ReplayMany : Type 0
ReplayMany = (deploy : Deploy) (w : Work) (ss : List Step) (k r : Replay)
    → Unfolds deploy.prices deploy.limit deploy.process (source_seed deploy) w → FreshWalk deploy w ss k → FullReplay deploy w ss r
    → ((a : State) → Leads deploy ss a → state_of w k ≡ a × AreAllDone ss r × ComesTo deploy w ss r a)
    × ((i : ℕ) → StopsAt deploy ss i → IsFirstLeft i r)

-- a log's steps are a legal list, and a replay came to the state to which they lead
pub record LeadsTo (deploy : Deploy) (w : Work) (ss : List Step) (r : Replay) : Type 0 where
  pub state : State
  pub leads : Leads deploy ss state
  pub steps : state.made ≡ ss
  pub comes : ComesTo deploy w ss r state

-- and back, so that what a replay did tells what the log is: where each step is done the log is a legal list that leads to what it came to, and else the first step that is not done is the one at which the log stops being legal
abbrev pub ReplaysDecide : Type 0
ReplaysDecide = (deploy : Deploy) (w : Work) (ss : List Step) (k r : Replay)
    → Unfolds deploy.prices deploy.limit deploy.process (source_seed deploy) w → FreshWalk deploy w ss k → FullReplay deploy w ss r
    → (AreAllDone ss r → LeadsTo deploy w ss r)
    × ((i : ℕ) → i < length ss → IsFirstLeft i r → StopsAt deploy ss i)

-- where a replay that can't go on made fresh digests there is a walk, and its digests are fresh: the premise may be tested on what any such replay made
abbrev pub FreshReplaysHaveWalks : Type 0
FreshReplaysHaveWalks = (deploy : Deploy) (w : Work) (ss : List Step) (r : Replay) → FullReplay deploy w ss r → IsFresh deploy.rows w r.done
    → (k : Replay) × FreshWalk deploy w ss k

-- where a walk's digests are fresh, so are those of every replay
abbrev pub ReplaysOfFreshWalksAreFresh : Type 0
ReplaysOfFreshWalksAreFresh = (deploy : Deploy) (w : Work) (ss : List Step) (k r : Replay) → FreshWalk deploy w ss k → Replays deploy.prices deploy.limit (first_bag deploy.rows w) ss r
    → IsFresh deploy.rows w r.done

-- a walk's digests are fresh where those of its steps are, as a list of steps
abbrev pub FreshStepsSuffice : Type 0
FreshStepsSuffice = (deploy : Deploy) (w : Work) (ss : List Step) (k : Replay)
    → Unfolds deploy.prices deploy.limit deploy.process (source_seed deploy) w → Walks deploy.prices deploy.limit (first_bag deploy.rows w) ss k → AreFresh deploy (done_steps k.done) → FreshWalk deploy w ss k

-- meetings that bind the same
pub record AreAlike (m n : Meeting) : Type 0 where
  pub receiver : m.receiver ≡ n.receiver
  pub sends : m.sends ≡ n.sends
  pub bindings : m.bindings ≡ n.bindings

-- where the log is legal up to a step, whose turn it is in some replay and that is allowed there, it is allowed after those before it, and binds the same
abbrev pub SameMeetings : Type 0
SameMeetings = (deploy : Deploy) (w : Work) (ss : List Step) (k r : Replay)
    → Unfolds deploy.prices deploy.limit deploy.process (source_seed deploy) w → FreshWalk deploy w ss k → Replays deploy.prices deploy.limit (first_bag deploy.rows w) ss r
    → (before : List Step) (s : Step) (after : List Step) → ss ≡ before ++ s ∷ after → is_due (first_bag deploy.rows w) r.done before s ≡ true
    → (m : Meeting) → meeting r.bag (done_steps r.done) s ≡ Some m → (a : State) → Leads deploy before a → (n : Meeting) × (meeting a.bag a.made s ≡ Some n × AreAlike m n)
