-- What is found among stored rows.
use Rattle.std.specs.Prelude.{◌≡◌, true, List, [], ◌∷◌, ◌++◌, map as each, Some, All}
use Rattle.calculus.specs.Rows.{Row, stdout, stdout_ack}
use Rattle.calculus.specs.Storing.{IsStorable}
use Rattle.calculus.specs.Steps.{Meeting, differ}
use Rattle.events.specs.Found.{met, Among, AreAtHand, is_lasting, leaving_rows}
use Rattle.found_rows.specs.declared.found.Found.{Found}

-- an id tells which of these rows it is
abbrev pub IdsTell : List Row → Type 0
IdsTell rs = (a b : Row) → Among a rs → Among b rs → a.id ≡ b.id → a ≡ b

-- what is found are stored rows and built-in receivers that meet, the operation among them
pub record MeetsAtHand (store : List Row) (o : Row) (f : Found) : Type 0 where
  pub receiver : Row
  pub sends : List Row
  pub at_hand : AreAtHand store o (receiver ∷ sends)
  pub part : Among o (receiver ∷ sends)
  pub storable : All IsStorable (receiver ∷ sends)
  pub differs : IdsTell (store ++ (stdout ∷ stdout_ack ∷ o ∷ [])) → differ (each (λ d. d.id) sends) ≡ true
  pub meeting : Meeting
  pub meets : met (receiver ∷ sends) ≡ Some meeting
  pub cont : f.cont.0 ≡ receiver.id
  pub taken : each (λ d. d.0) f.taken.items ≡ each (λ d. d.id) sends
  pub bound : f.bound.items ≡ meeting.bindings
  pub body : f.body ≡ meeting.receiver.body
  pub gone : each (λ d. d.0) f.gone.items ≡ each (λ r. r.id) (leaving_rows meeting.receiver.kind meeting.sends (receiver ∷ sends))
  pub lasting : f.lasting ≡ is_lasting meeting
