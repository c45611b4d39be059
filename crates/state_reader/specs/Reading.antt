-- What is known while rows are read.
use Rattle.std.specs.Prelude.{◌≡◌, ℕ, ◌<◌, ◌+◌, ◌^◌, List, [], ◌∷◌, ◌++◌, length, map as each, ⊤}
use Rattle.std.specs.BTreeSet.{BTreeSet, contains}
use Rattle.calculus.specs.Order.{byte_cmp}
use Rattle.calculus.specs.Bytes.{joined}
use Rattle.calculus.specs.Rows.{Row, row_code}
use Rattle.calculus.specs.Steps.{is_one_of}
use Rattle.checkpoint.specs.Kept.{AreInOrder}
use Rattle.row_reader.specs.RowCodes.{IsCutRow}
use Rattle.input_faults.specs.declared.state_fault.StateFault.{StateFault}
use Rattle.input_faults.specs.declared.state_fault.StateFault.TheVariants as fault
use Rattle.state_reader.specs.Files.{IsNoFront, IsNoNextRow}
use Rattle.state_reader.specs.declared.read.RowsRead.{RowsRead}

-- the code of the last of these rows, and no bytes where there is none
abbrev pub last_code : List Row → List ℕ
last_code [] = []
last_code (r ∷ []) = row_code r
last_code (r ∷ q ∷ qs) = last_code (q ∷ qs)

-- a set has these ids
abbrev pub AreIds : BTreeSet (List ℕ) → List (List ℕ) → Type 0
AreIds set xs = (x : List ℕ) → contains byte_cmp set x ≡ is_one_of x xs

-- rows in the order of a state, with their codes and ids and the code of the last
pub record IsInHand (s : RowsRead) : Type 0 where
  pub order : AreInOrder s.rows.items
  pub codes : each (λ c. c.now) s.codes.items ≡ each row_code s.rows.items
  pub ids : AreIds s.ids (each (λ r. r.id) s.rows.items)
  pub last : s.last.now ≡ last_code s.rows.items

-- one more row, whose code stands at the front of bytes, and what follows it
abbrev pub Adds : List Row → List Row → List ℕ → List ℕ → Type 0
Adds before after bs left = (r : Row) × (after ≡ before ++ r ∷ []) × (bs ≡ row_code r ++ left)

-- a fault that rows may have
abbrev pub IsOfRows : StateFault → Type 0
IsOfRows (fault.WrongRoot stored found) = ⊥
IsOfRows (fault.Reducible cont taken) = ⊥
IsOfRows _ = ⊤

-- a fault at this place, or want of memory
abbrev pub IsMisplaced : ℕ → StateFault → Type 0
IsMisplaced at (fault.NotCanonical n) = n ≡ at
IsMisplaced at fault.NoMemory = ⊤
IsMisplaced at _ = ⊥

-- bytes are the codes of rows in the order of a state, fewer than so many, and these that are left
pub record AreRows (number : ℕ) (rows : List Row) (bs left : List ℕ) : Type 0 where
  pub is : bs ≡ joined (each row_code rows) ++ left
  pub order : AreInOrder rows
  pub few : length rows < number

-- at the front of bytes a row is cut, and no whole one stands there
pub record IsCutThere (bs : List ℕ) : Type 0 where
  pub cut : IsCutRow bs
  pub none : length bs < 2 ^ 32 → IsNoFront bs

-- of so many rows one is cut
abbrev pub AreCut : ℕ → List ℕ → Type 0
AreCut number bs = (rows : List Row) × (left : List ℕ) × AreRows number rows bs left × IsCutThere left

-- of so many rows one is wrong, at this place in a text of so many bytes that ends with these
abbrev pub AreWrong : ℕ → ℕ → ℕ → List ℕ → Type 0
AreWrong whole at number bs = (rows : List Row) × (left : List ℕ) × AreRows number rows bs left × (at + length left ≡ whole) × IsNoNextRow rows left
