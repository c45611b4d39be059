-- The least rows that meet.
use Rattle.std.specs.Prelude.{◌≡◌, true, List, ◌∷◌, map as each, None, IsSome}
use Rattle.calculus.specs.Candidates.{ids_up_to}
use Rattle.calculus.specs.Rows.{Row}
use Rattle.calculus.specs.Steps.{differ}
use Rattle.events.specs.Found.{met, Among}
use Rattle.row_search.specs.Meetings.{AllAmong}
use Rattle.least_step.specs.declared.least.LeastStep.{LeastStep}
use Rattle.least_step.specs.Orders.{ids_of}

-- a row meets none of these rows
abbrev pub MeetsNone : List Row → Row → Type 0
MeetsNone rows r = (ds : List Row) → AllAmong ds rows → met (r ∷ ds) ≡ None

-- none of these rows meet
abbrev pub NoneMeets : List Row → Type 0
NoneMeets rows = (r : Row) → Among r rows → MeetsNone rows r

-- a receiver's id, and the ids of rows that it meets, whose list is the least of all such
pub record IsLeastWith (rows : List Row) (receiver : Row) (f : LeastStep) : Type 0 where
  pub sends : List Row
  pub at_hand : AllAmong sends rows
  pub cont : f.cont.0 ≡ receiver.id
  pub taken : each (λ d. d.0) f.taken.items ≡ ids_of sends
  pub differs : differ (ids_of sends) ≡ true
  pub meets : IsSome (met (receiver ∷ sends))
  pub least : (ds : List Row) → AllAmong ds rows → IsSome (met (receiver ∷ ds)) → ids_up_to (ids_of sends) (ids_of ds) ≡ true

-- the ids of rows that meet, the receiver's first, whose list is the least of all such
pub record IsLeastMeeting (rows : List Row) (f : LeastStep) : Type 0 where
  pub receiver : Row
  pub sends : List Row
  pub at_hand : AllAmong (receiver ∷ sends) rows
  pub cont : f.cont.0 ≡ receiver.id
  pub taken : each (λ d. d.0) f.taken.items ≡ ids_of sends
  pub differs : differ (ids_of sends) ≡ true
  pub meets : IsSome (met (receiver ∷ sends))
  pub least : (r : Row) (ds : List Row) → AllAmong (r ∷ ds) rows → IsSome (met (r ∷ ds)) → ids_up_to (ids_of (receiver ∷ sends)) (ids_of (r ∷ ds)) ≡ true
