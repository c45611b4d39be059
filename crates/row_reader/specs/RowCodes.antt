-- Codes of rows at the front of bytes.
use Rattle.std.specs.Prelude.{◌≡◌, ℕ, ◌<◌, ◌≤◌, ◌^◌, true, ⊤, List, [], ◌++◌, length, map as each}
use Rattle.calculus.specs.Bytes.{be32, joined}
use Rattle.calculus.specs.Code.{code, codes}
use Rattle.calculus.specs.Form.{a_bind, all, Hold, IsClosed, IsDigest, Scope}
use Rattle.calculus.specs.Order.{IsAscending}
use Rattle.calculus.specs.Rows.{Row, row_code, channels}
use Rattle.calculus.specs.Shape.{at, count, held, listed, only}
use Rattle.calculus.specs.Size.{height, heights}
use Rattle.calculus.specs.Storing.{is_active}
use Rattle.calculus.specs.Tree.{Trees}
use Rattle.row_reader.specs.declared.front.RowFault.{RowFault}
use Rattle.row_reader.specs.declared.front.RowFault.TheVariants as found
use Rattle.code_faults.specs.declared.fault.ReadFault.{ReadFault}
use Rattle.code_faults.specs.declared.fault.ReadFault.TheVariants as fault
use Rattle.code_faults.specs.Beginning.{Cuts}
use Rattle.code_faults.specs.Refusing.{AreRight, Denies, HasRoom}

-- a row within the limit of height, whatever the length of its code: a closed send or receive under an id of 32 bytes, whose channels ascend in their codes, where two may be equal
pub record IsRow (r : Row) : Type 0 where
  pub id : IsDigest r.id
  pub active : is_active r.part ≡ true
  pub closed : IsClosed (only r.part)
  pub low : height r.part ≤ 400
  pub channels : IsAscending (each code (channels r.part))

-- bytes are a proper prefix of the code of such a row
pub record IsCutRow (bs : List ℕ) : Type 0 where
  pub row : Row
  pub fits : IsRow row
  pub more : List ℕ
  pub is : bs ++ more ≡ row_code row
  pub some : 0 < length more

-- bytes begin with the code of such a row, and these are left
pub record ReadsRow (r : Row) (bytes left : List ℕ) : Type 0 where
  pub is : bytes ≡ row_code r ++ left
  pub fits : IsRow r

-- refused bytes do not begin with the code of such a row that is shorter than 2^32 bytes
pub record RefusesRows (e : ReadFault) (bytes : List ℕ) : Type 0 where
  pub no : length bytes < 2 ^ 32 → (r : Row) → IsRow r → length (row_code r) < 2 ^ 32 → Denies e bytes (row_code r)

-- what holds where bytes end early
abbrev pub WhereCut : ReadFault → Type 0 → Type 0
WhereCut (fault.Short at) P = P
WhereCut _ P = ⊤

-- the codes of the channels of these binds
abbrev pub channel_codes : Trees → List (List ℕ)
channel_codes ts = each code (each (λ b. at 0 (held b)) (listed ts))

-- refused bytes do not begin with the number and the codes of 1 to 16 binds whose channels ascend
pub record RefusesJoin (v : Scope) (room : ℕ) (e : ReadFault) (bs : List ℕ) : Type 0 where
  pub no : HasRoom v bs → (ts : Trees) → AreRight true a_bind v room ts → 1 ≤ count ts → count ts ≤ 16 → IsAscending (channel_codes ts) → Denies e bs (be32 (count ts) ++ joined (codes ts))

-- bytes are a proper prefix of the number and the codes of 1 to 16 such binds
pub record BegunJoin (v : Scope) (room : ℕ) (bs : List ℕ) : Type 0 where
  pub trees : Trees
  pub fits : Hold (all a_bind) v [] trees
  pub low : heights trees ≤ room
  pub enough : 1 ≤ count trees
  pub few : count trees ≤ 16
  pub up : IsAscending (channel_codes trees)
  pub cut : Cuts bs (be32 (count trees) ++ joined (codes trees)) []

-- what a fault says of a row
abbrev pub fault_of : ReadFault → RowFault
fault_of (fault.Short at) = found.Cut
fault_of fault.NoMemory = found.NoMemory
fault_of _ = found.Wrong
