-- Which entries are allowed, and what they come to.
use Rattle.std.specs.Prelude.{◌≡◌, ◌≢◌, ◌⊎◌, ⊤, ℕ, ◌+◌, true, List, [], ◌∷◌, ◌++◌, map as each, flat_map, Option, Some, None, IsPermutation}
use Rattle.calculus.specs.Log.{Step}
use Rattle.calculus.specs.Rows.{Row, stdout, stdout_ack}
use Rattle.calculus.specs.Unfolding.{rows_of}
use Rattle.calculus.specs.Steps.{Meeting, differ, stored_rows}
use Rattle.calculus.specs.Runs.{Deploy, Work, work_products, work_price, work_fault, body_work, State, Leads, total, done, verdict, cost, next_rows, IsRun, made_digests}
use Rattle.events.specs.Events.{Core, started, Event, Events, AreFresh, built_in_ids}
use Rattle.events.specs.Found.{met, Among, AreAtHand, leaving_rows, printed_by, step_of}
use Rattle.events.specs.EventLaws.{Begins}
use Rattle.events.specs.Premises.{Shares}
use Rattle.events.specs.Entries.{Space, first_space, Making, Entry, after, after_all, steps_of, lines_of, left_rows, total_of, verdict_of, cost_of}

-- the core of a space, where the source and the bodies of the steps came to these works
abbrev pub core_of : Space → List Work → Core
core_of space works = record { store = space.store; pending = space.pending; made = space.made; works = works; output = space.output }

-- the rows that these works offer
abbrev pub offered_rows : List Work → List Row
offered_rows works = flat_map (λ w. rows_of (work_products w)) works

-- events lead from a deploy's beginning to the core of a space, with some works
pub record IsReached (deploy : Deploy) (space : Space) : Type 0 where
  pub source : Work
  pub begins : Begins deploy source
  pub works : List Work
  pub events : Events deploy.prices deploy.limit (started deploy.rows source) (core_of space works)
  pub offered : space.offered ≡ offered_rows works

-- each of these rows is one of those
abbrev pub AreAmong : List Row → List Row → Type 0
AreAmong rows others = (r : Row) → Among r rows → Among r others

-- ids tell these rows: rows with one id are one row
abbrev pub IdsTell : List Row → Type 0
IdsTell rows = (q r : Row) → Among q rows → Among r rows → q.id ≡ r.id → q ≡ r

-- what an operation may meet or be: these rows, the built-in receivers and itself
abbrev pub rows_at_hand : List Row → Row → List Row
rows_at_hand rows o = rows ++ (stdout ∷ stdout_ack ∷ o ∷ [])

-- with these rows and the built-in receivers an operation makes no step
abbrev pub MeetsNothing : List Row → Row → Type 0
MeetsNothing rows o = (r : Row) (sends : List Row) → AreAtHand rows o (r ∷ sends) → Among o (r ∷ sends) → differ (each (λ d. d.id) sends) ≡ true → met (r ∷ sends) ≡ None

-- rows at hand meet, the operation among them, and make the step after those made that is told, with what leaves and what is printed; its body comes to this work, which tells the rest; the data differ in their ids wherever ids tell rows
pub record MakesStep (deploy : Deploy) (rows : List Row) (made : List Step) (o : Row) (a : Making) (w : Work) : Type 0 where
  pub receiver : Row
  pub sends : List Row
  pub at_hand : AreAtHand rows o (receiver ∷ sends)
  pub part : Among o (receiver ∷ sends)
  pub differs : IdsTell (rows_at_hand rows o) → differ (each (λ d. d.id) sends) ≡ true
  pub found : Meeting
  pub meets : met (receiver ∷ sends) ≡ Some found
  pub step : a.step ≡ step_of made receiver sends
  pub gone : a.gone ≡ each (λ r. r.id) (leaving_rows found.receiver.kind found.sends (receiver ∷ sends))
  pub line : a.line ≡ printed_by (receiver ∷ sends) found
  pub room : ℕ
  pub work : body_work deploy.prices deploy.limit room a.step found ≡ Some w
  pub offers : a.offers ≡ rows_of (work_products w)
  pub price : a.price ≡ deploy.prices.comm + work_price deploy.limit w
  pub fault : a.fault ≡ work_fault w

-- what an entry says of its step is so, and adds the work of its body to these works; without a step they stay
abbrev pub IsRight : Deploy → Space → Row → Option Making → List Work → List Work → Type 0
IsRight deploy space o None before later = later ≡ before
IsRight deploy space o (Some a) before later = (w : Work) × MakesStep deploy space.store space.made o a w × (later ≡ before ++ w ∷ [])

-- an entry is an event: events lead to the space, in which its operation is pending, and to the space after it leads one more, of which it says what is so
pub record IsEvent (deploy : Deploy) (space : Space) (e : Entry) : Type 0 where
  pub reached : IsReached deploy space
  pub pending : Among e.operation space.pending
  pub works : List Work
  pub event : Event deploy.prices deploy.limit (core_of space reached.works) (core_of (after space e) works)
  pub right : IsRight deploy space e.operation e.making reached.works works

-- an entry is allowed: it is an event, if the digests of the steps made so far are fresh
abbrev pub IsAllowed : Deploy → Space → Entry → Type 0
IsAllowed deploy space e = AreFresh deploy space.made → IsEvent deploy space e

-- each of these entries is allowed after those before it, from this space on
abbrev pub AreAllowedFrom : Deploy → Space → List Entry → Type 0
AreAllowedFrom deploy space [] = ⊤
AreAllowedFrom deploy space (e ∷ es) = IsAllowed deploy space e × AreAllowedFrom deploy (after space e) es

-- allowed entries lead from the beginning of a deploy, whose source comes to this work, to this space
pub record AreAllowed (deploy : Deploy) (source : Work) (entries : List Entry) (space : Space) : Type 0 where
  pub begins : Begins deploy source
  pub allowed : AreAllowedFrom deploy (first_space deploy source) entries
  pub is : space ≡ after_all (first_space deploy source) entries

-- what entries come to: the digests of their steps are fresh; the steps lead to a state with the rows that are stored and pending, and with the output, total, verdict and cost that the entries tell; and once nothing is pending, or the verdict is not done, they are a run
pub record ComesTo (deploy : Deploy) (source : Work) (entries : List Entry) (space : Space) : Type 0 where
  pub made : space.made ≡ steps_of entries
  pub fresh : AreFresh deploy space.made
  pub state : State
  pub leads : Leads deploy (steps_of entries) state
  pub output : state.output ≡ lines_of entries
  pub rows : IsPermutation (stored_rows state.bag) (space.store ++ space.pending)
  pub total : total deploy.prices deploy.limit state ≡ total_of deploy source entries
  pub verdict : verdict deploy.prices deploy.limit state ≡ verdict_of deploy source entries
  pub cost : cost deploy.prices deploy.limit state ≡ cost_of deploy source entries
  pub ends : (space.pending ≡ []) ⊎ (verdict_of deploy source entries ≢ done) → IsRun deploy (steps_of entries) state
  pub leaves : (space.pending ≡ []) ⊎ (verdict_of deploy source entries ≢ done) → IsPermutation (next_rows deploy.rows (verdict_of deploy source entries) state.bag) (left_rows deploy (verdict_of deploy source entries) space)

-- the first of these steps lead to a state in which an id of the checkpoint is a built-in receiver's or made again
pub record ShowsAnId (deploy : Deploy) (ss : List Step) : Type 0 where
  pub first : List Step
  pub rest : List Step
  pub is : ss ≡ first ++ rest
  pub state : State
  pub leads : Leads deploy first state
  pub shares : Shares (each (λ r. r.id) deploy.rows) (built_in_ids ++ made_digests state)
