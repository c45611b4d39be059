-- What a search answers: rows that meet, or that there are none.
use Rattle.std.specs.Prelude.{◌≡◌, ◌==◌, ◌&&◌, length, true, cond, List, [], ◌∷◌, ◌++◌, map as each, Option, Some, None, ⊤, All}
use Rattle.calculus.specs.declared.plain.Kind.{Kind}
use Rattle.calculus.specs.declared.ids.Digest.{Digest}
use Rattle.calculus.specs.Tree.{Tree}
use Rattle.calculus.specs.Rows.{Row}
use Rattle.calculus.specs.Storing.{IsStorable}
use Rattle.calculus.specs.Steps.{Datum, Meeting, as_datum, differ, stays}
use Rattle.events.specs.Found.{met, is_lasting, leaving_rows, Among}
use Rattle.found_rows.specs.declared.found.Found.{Found}
use Rattle.found_rows.specs.AtHand.{IdsTell}
use Rattle.row_search.specs.declared.choices.Joined.{Joined}
use Rattle.row_search.specs.Rows.{is_heard_on}

-- the rows at hand and the operation
abbrev pub rows_with : List Row → Row → List Row
rows_with rows o = rows ++ o ∷ []

-- each of these rows stands in a list
abbrev pub AllAmong : List Row → List Row → Type 0
AllAmong [] qs = ⊤
AllAmong (r ∷ rs) qs = Among r qs × AllAmong rs qs

-- no rows at hand meet, the operation among them
abbrev pub MeetsNothing : List Row → Row → Type 0
MeetsNothing rows o = (r : Row) (ds : List Row) → AllAmong (r ∷ ds) (rows_with rows o) → Among o (r ∷ ds) → met (r ∷ ds) ≡ None

-- Rows at hand that may be stored meet, the operation among them, and this tells the ids of the receiver, of the sends and of what leaves, what is bound, the receiver's body, and whether
-- nothing leaves. The sends differ in their ids wherever ids tell rows.
pub record IsFound (rows : List Row) (o : Row) (f : Found) : Type 0 where
  pub receiver : Row
  pub sends : List Row
  pub at_hand : AllAmong (receiver ∷ sends) (rows_with rows o)
  pub part : Among o (receiver ∷ sends)
  pub storable : All IsStorable (receiver ∷ sends)
  pub differs : IdsTell (rows_with rows o) → differ (each (λ d. d.id) sends) ≡ true
  pub meeting : Meeting
  pub meets : met (receiver ∷ sends) ≡ Some meeting
  pub cont : f.cont.0 ≡ receiver.id
  pub taken : each (λ d. d.0) f.taken.items ≡ each (λ d. d.id) sends
  pub bound : f.bound.items ≡ meeting.bindings
  pub body : f.body ≡ meeting.receiver.body
  pub gone : each (λ d. d.0) f.gone.items ≡ each (λ r. r.id) (leaving_rows meeting.receiver.kind meeting.sends (receiver ∷ sends))
  pub lasting : f.lasting ≡ is_lasting meeting

-- no rows at hand meet with this receiver, the operation among them
abbrev pub MeetsNone : List Row → Row → Row → Type 0
MeetsNone rows o r = (ds : List Row) → AllAmong ds (rows_with rows o) → Among o (r ∷ ds) → met (r ∷ ds) ≡ None

-- a datum is on this channel, where there is one
abbrev pub IsDatumOn : Tree → Option Datum → Type 0
IsDatumOn c None = ⊥
IsDatumOn c (Some d) = d.channel ≡ c

-- a row is a send on this channel
abbrev pub IsSendOn : Tree → Row → Type 0
IsSendOn c r = IsDatumOn c (as_datum r.part)

-- a receiver may meet an operation: it hears the datum, or is the operation where that is no datum
abbrev pub HearsOrIs : Row → Row → Option Datum → Type 0
HearsOrIs r o None = r ≡ o
HearsOrIs r o (Some d) = is_heard_on d.channel r ≡ true

-- a receiver is the operation, or hears it where that is a send
abbrev pub MayMeet : Row → Row → Type 0
MayMeet r o = HearsOrIs r o (as_datum o.part)

-- what is told of a receiver and of the choices for its binds
pub record Finishes (id : Digest) (k : Kind) (body : Tree) (j : Joined) (f : Found) : Type 0 where
  pub cont : f.cont ≡ id
  pub taken : f.taken.items ≡ j.taken.items
  pub bound : f.bound.items ≡ j.bound.items
  pub body_is : f.body ≡ body
  pub gone : f.gone.items ≡ cond (stays k) [] (id ∷ []) ++ j.gone.items
  pub lasting : f.lasting ≡ (stays k && length j.gone.items == 0)
