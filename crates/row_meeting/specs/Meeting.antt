-- A receiver and given sends that meet.
use Rattle.std.specs.Prelude.{◌≡◌, ◌≤◌, true, length, List, ◌∷◌, map as each, All, Some}
use Rattle.calculus.specs.Form.{IsClosed}
use Rattle.calculus.specs.Rows.{Row}
use Rattle.calculus.specs.Steps.{Meeting, differ}
use Rattle.calculus.specs.Storing.{IsStorable}
use Rattle.calculus.specs.Substitution.{put}
use Rattle.events.specs.Found.{met, is_lasting, leaving_rows}
use Rattle.row_search.specs.Meetings.{rows_with}
use Rattle.found_rows.specs.AtHand.{IdsTell}
use Rattle.found_rows.specs.declared.found.Found.{Found}

-- A receiver's row meets the rows of these sends, all of which may be stored. This tells the ids of the receiver, of the sends and of what leaves, what is bound, the receiver's body, and
-- whether nothing leaves. What is bound is closed, and so is the body under it. There are 1 to 16 sends, and they differ in their ids wherever ids tell these rows.
pub record IsMeeting (r : Row) (ds : List Row) (f : Found) : Type 0 where
  pub meeting : Meeting
  pub meets : met (r ∷ ds) ≡ Some meeting
  pub storable : All IsStorable (r ∷ ds)
  pub in_range : (1 ≤ length ds) × (length ds ≤ 16)
  pub differs : IdsTell (rows_with ds r) → differ (each (λ d. d.id) ds) ≡ true
  pub cont : f.cont.0 ≡ r.id
  pub taken : each (λ d. d.0) f.taken.items ≡ each (λ d. d.id) ds
  pub bound : f.bound.items ≡ meeting.bindings
  pub body : f.body ≡ meeting.receiver.body
  pub gone : each (λ d. d.0) f.gone.items ≡ each (λ q. q.id) (leaving_rows meeting.receiver.kind meeting.sends (r ∷ ds))
  pub lasting : f.lasting ≡ is_lasting meeting
  pub values : All IsClosed f.bound.items
  pub closed : IsClosed (put f.bound.items f.body)
