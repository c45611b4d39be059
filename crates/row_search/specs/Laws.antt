-- What the search means to events. Each law stands in the contract of a public function that does nothing.
use Rattle.std.specs.Prelude.{◌≡◌, ℕ, false, List, [], ◌∷◌, ◌++◌, map as each, Some, None}
use Rattle.calculus.specs.Rows.{Row, stdout, stdout_ack}
use Rattle.calculus.specs.Runs.{Deploy, Work, body_work}
use Rattle.events.specs.Events.{Core, started, after_put, Event, Events, AreFresh}
use Rattle.events.specs.Found.{met, Among, AreAtHand, after_meeting, step_of}
use Rattle.events.specs.EventLaws.{Begins}
use Rattle.found_rows.specs.declared.found.Found.{Found}
use Rattle.row_search.specs.Meetings.{MeetsNothing, IsFound}
use Rattle.found_rows.specs.AtHand.{MeetsAtHand}

-- these rows are the stored ones and the built-in receivers, in any order
pub record HoldRows (store rows : List Row) : Type 0 where
  pub all : (r : Row) → Among r (store ++ (stdout ∷ stdout_ack ∷ [])) → Among r rows
  pub only : (r : Row) → Among r rows → Among r (store ++ (stdout ∷ stdout_ack ∷ []))

-- an operation that meets nothing at hand meets no stored rows and built-in receivers
abbrev pub NothingIsAtHand : Type 0
NothingIsAtHand = (store rows : List Row) → HoldRows store rows → (o : Row) → MeetsNothing rows o
    → (r : Row) (ds : List Row) → AreAtHand store o (r ∷ ds) → Among o (r ∷ ds) → met (r ∷ ds) ≡ None

-- what is found is at hand
abbrev pub FoundIsAtHand : Type 0
FoundIsAtHand = (store rows : List Row) → HoldRows store rows → (o : Row) (f : Found) → IsFound rows o f → MeetsAtHand store o f

-- what is found tells an event of a core: the next step of these rows, for each work that its body may come to
pub record IsNext (deploy : Deploy) (c : Core) (o : Row) (before after : List Row) (f : Found) : Type 0 where
  pub found : MeetsAtHand c.store o f
  pub event : (v : Work) (room : ℕ) → body_work deploy.prices deploy.limit room (step_of c.made found.receiver found.sends) found.meeting ≡ Some v
      → Event deploy.prices deploy.limit c (after_meeting c o before after (found.receiver ∷ found.sends) found.meeting (step_of c.made found.receiver found.sends) v)
  pub first : (v : Work) (room : ℕ) → body_work deploy.prices deploy.limit room (step_of c.made found.receiver found.sends) found.meeting ≡ Some v → f.lasting ≡ false
      → (step_of c.made found.receiver found.sends).repeat ≡ 0

-- an operation that meets nothing at hand may be stored, under fresh digests
abbrev pub NothingIsStored : Type 0
NothingIsStored = (deploy : Deploy) (w : Work) (c : Core)
    → Begins deploy w → Events deploy.prices deploy.limit (started deploy.rows w) c → AreFresh deploy c.made
    → (o : Row) (before after : List Row) → c.pending ≡ before ++ o ∷ after
    → (rows : List Row) → HoldRows c.store rows → MeetsNothing rows o → Event deploy.prices deploy.limit c (after_put c o before after)

-- what is found is the next step of rows at hand, under fresh digests
abbrev pub FoundIsNext : Type 0
FoundIsNext = (deploy : Deploy) (w : Work) (c : Core)
    → Begins deploy w → Events deploy.prices deploy.limit (started deploy.rows w) c → AreFresh deploy c.made
    → (o : Row) (before after : List Row) → c.pending ≡ before ++ o ∷ after
    → (rows : List Row) → HoldRows c.store rows → (f : Found) → IsFound rows o f → IsNext deploy c o before after f
