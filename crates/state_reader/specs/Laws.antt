-- Laws of the reading of states. Each stands in the contract of a public function that does nothing.
use Rattle.std.specs.Prelude.{◌≡◌, ℕ, ◌<◌, ◌^◌, ◌++◌, ⊤, true, List, length, map as each}
use Rattle.calculus.specs.Rows.{Row}
use Rattle.calculus.specs.Steps.{differ}
use Rattle.events.specs.Events.{first_ids}
use Rattle.events.specs.States.{state_text}
use Rattle.events.specs.Quiet.{AllowNoStep}
use Rattle.checkpoint.specs.Kept.{AreInOrder}
use Rattle.row_reader.specs.RowCodes.{IsCutRow}
use Rattle.input_faults.specs.declared.state_fault.StateFault.{StateFault}
use Rattle.input_faults.specs.declared.state_fault.StateFault.TheVariants.{NoMemory}
use Rattle.input_faults.specs.declared.state_fault.StateFault.TheVariants as fault
use Rattle.state_reader.specs.Files.{IsNotCut}
use Rattle.state_reader.specs.Refused.{IsRefused}

-- bytes are the text of these rows, which stand in the order of a state, differ in their ids from one another and from the built-in receivers, and allow no step
pub record IsTextOf (bs : List ℕ) (rows : List Row) : Type 0 where
  pub is : bs ≡ state_text rows
  pub order : AreInOrder rows
  pub ids : differ (first_ids rows) ≡ true
  pub quiet : AllowNoStep rows

-- such bytes are refused for want of memory alone
abbrev pub StatesAreRead : Type 0
StatesAreRead = (bs : List ℕ) (rows : List Row) → IsTextOf bs rows → length bs < 2 ^ 32 → (e : StateFault) → IsRefused bs e → e ≡ NoMemory

-- the bytes from this place on are a proper prefix of codes of rows, but of none that is shorter than 2^32 bytes
pub record IsLongAt (at : ℕ) (bs : List ℕ) : Type 0 where
  pub before : List ℕ
  pub left : List ℕ
  pub is : bs ≡ before ++ left
  pub place : at ≡ length before
  pub cut : IsCutRow left
  pub long : IsNotCut left

-- bytes are the text of rows that stand in the order of a state and whose ids differ from one another and from those of the built-in receivers
pub record HasDistinctIds (bs : List ℕ) : Type 0 where
  pub rows : List Row
  pub is : bs ≡ state_text rows
  pub order : AreInOrder rows
  pub ids : differ (first_ids rows) ≡ true

-- two faults of the same bytes are one: they are of one kind and tell the same. Want of memory stands beside any, and where the bytes end in a row that only codes of 2^32 bytes or more go on from, that may be told as an early end or as a wrong place, the row's
abbrev pub AreOneFault : List ℕ → StateFault → StateFault → Type 0
AreOneFault bs fault.NoMemory fault.NoMemory = ⊤
AreOneFault bs fault.NoMemory (fault.Short j) = ⊤
AreOneFault bs fault.NoMemory (fault.NotCanonical j) = ⊤
AreOneFault bs fault.NoMemory (fault.WrongRoot s f) = ⊤
AreOneFault bs fault.NoMemory (fault.Reducible d ys) = ⊤
AreOneFault bs (fault.Short i) fault.NoMemory = ⊤
AreOneFault bs (fault.Short i) (fault.Short j) = i ≡ j
AreOneFault bs (fault.Short i) (fault.NotCanonical j) = IsLongAt j bs
AreOneFault bs (fault.Short i) (fault.WrongRoot s f) = ⊥
AreOneFault bs (fault.Short i) (fault.Reducible d ys) = ⊥
AreOneFault bs (fault.NotCanonical i) fault.NoMemory = ⊤
AreOneFault bs (fault.NotCanonical i) (fault.Short j) = IsLongAt i bs
AreOneFault bs (fault.NotCanonical i) (fault.NotCanonical j) = i ≡ j
AreOneFault bs (fault.NotCanonical i) (fault.WrongRoot s f) = ⊥
AreOneFault bs (fault.NotCanonical i) (fault.Reducible d ys) = ⊥
AreOneFault bs (fault.WrongRoot stored found) fault.NoMemory = ⊤
AreOneFault bs (fault.WrongRoot stored found) (fault.Short j) = ⊥
AreOneFault bs (fault.WrongRoot stored found) (fault.NotCanonical j) = ⊥
AreOneFault bs (fault.WrongRoot stored found) (fault.WrongRoot s f) = (stored.0 ≡ s.0) × (found.0 ≡ f.0)
AreOneFault bs (fault.WrongRoot stored found) (fault.Reducible d ys) = ⊥
AreOneFault bs (fault.Reducible c xs) fault.NoMemory = ⊤
AreOneFault bs (fault.Reducible c xs) (fault.Short j) = ⊥
AreOneFault bs (fault.Reducible c xs) (fault.NotCanonical j) = ⊥
AreOneFault bs (fault.Reducible c xs) (fault.WrongRoot s f) = ⊥
AreOneFault bs (fault.Reducible c xs) (fault.Reducible d ys) = HasDistinctIds bs → (c.0 ≡ d.0) × (each (λ x. x.0) xs.items ≡ each (λ y. y.0) ys.items)

-- the same bytes have one fault
abbrev pub OneFault : Type 0
OneFault = (bs : List ℕ) → length bs < 2 ^ 32 → (e f : StateFault) → IsRefused bs e → IsRefused bs f → AreOneFault bs e f
