-- What is left where a hub ends, and the room that this takes.
use Rattle.std.specs.Prelude.{◌≡◌, ℕ, ◌<◌, ◌≤◌, List, [], length, vec_capacity, Option, Some, IsSome}
use Rattle.std.specs.List.{All}
use Rattle.hub_slots.specs.declared.room.Room.{Room}
use Rattle.hub_rule.specs.declared.rule.Opened.{Opened}
use Rattle.hub_rule.specs.declared.terms.StopCause.{StopCause}
use Rattle.hub_rule.specs.declared.terms.StopCause.TheVariants.{Fault, NoMemory}
use Rattle.hub_rule.specs.Counts.{total, all_of, StandIn, EachOnceBelow}
use Rattle.hub_rule.specs.Meaning.{Meaning}
use Rattle.hub_rule.specs.Stops.{FaultOf}
use Rattle.group_locks.specs.declared.state.SeatState.{SeatState}
use Rattle.group_locks.specs.Seats.{drawn_by, hand_of, over_of, memory_of, faults_of, stops_of, limit_of, RanFrom, IsCharged, SettledWithin, EmptyWhereFound, CanHoldLeft, CanHoldDrawn}

-- room for all that these seats and the desks leave, of so many works at the start
pub record CanHoldAll {A E X W : Type 0} (start : ℕ) (f : A → SeatState E X W) (ss : List A) (room : Room E X W) : Type 0 where
  pub lists : (room.drawn.items ≡ []) × (length ss ≤ vec_capacity room.drawn)
  pub order : CanHoldDrawn f ss room.places room.entries
  pub shards : (room.shards.items ≡ []) × (64 ≤ vec_capacity room.shards)
  pub left : CanHoldLeft start f ss room.left

-- Where these were all seats of a hub that opened with this key: these entries are what they drew, in the order of their numbers; so the shards closed, these
-- works are left, so much is charged, and this is the cause of the stop; and what a seat found is so.
pub record HasEnded {A Store E X W : Type 0} (m : Meaning Store E X W) (key : Opened X W) (f : A → SeatState E X W) (ss : List A) (entries : List E) (closed : List X) (left : List W) (charged : ℕ) (cause : Option StopCause) : Type 0 where
  pub count : length entries ≡ total (λ s. length (drawn_by (f s))) ss
  pub drawn : All (λ s. StandIn entries (drawn_by (f s))) ss
  pub once : EachOnceBelow (length entries) (all_of (λ s. drawn_by (f s)) ss)
  pub shards : length closed ≡ 64
  pub ran : RanFrom m key entries closed left (all_of (λ s. hand_of (f s)) ss)
  pub empty : EmptyWhereFound f ss left
  pub paid : IsCharged m.price key f ss charged
  pub bounded : SettledWithin m.price key f ss
  pub over : All (λ s. 0 < over_of (f s) → limit_of key < charged) ss
  pub memory : All (λ s. 0 < memory_of (f s) → cause ≡ Some NoMemory) ss
  pub faulty : All (λ s. 0 < faults_of (f s) → cause ≡ Some Fault) ss
  pub stop : All (λ s. 0 < stops_of (f s) → IsSome cause) ss
  pub fault : cause ≡ Some Fault → FaultOf m.faults entries
