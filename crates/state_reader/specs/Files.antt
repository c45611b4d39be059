-- Which bytes are the text of a state, and where bytes that are none end early or are wrong.
use Rattle.std.specs.Prelude.{◌≡◌, ℕ, ◌<◌, ◌≤◌, ◌+◌, ◌^◌, true, List, [], ◌∷◌, ◌++◌, length, map as each, take, slice_index, codes}
use Rattle.calculus.specs.Bytes.{be64, joined}
use Rattle.calculus.specs.Root.{root as root_of}
use Rattle.calculus.specs.Rows.{Row, row_code}
use Rattle.calculus.specs.Storing.{IsStorable}
use Rattle.calculus.specs.Candidates.{IsLeastAllowed}
use Rattle.calculus.specs.Log.{Step}
use Rattle.calculus.specs.Steps.{differ}
use Rattle.events.specs.Events.{stored, first_ids}
use Rattle.events.specs.States.{state_text}
use Rattle.row_reader.specs.RowCodes.{IsCutRow, IsRow}
use Rattle.checkpoint.specs.Kept.{AreInOrder}

-- what the text of each state begins with: its name and its version
abbrev pub heading : List ℕ
heading = codes "RHOSTATE" ++ 0x01 ∷ []

-- bytes are fewer than the 49 of a heading, a root and a number of rows, and are the heading as far as they go
pub record IsCutHeader (bs : List ℕ) : Type 0 where
  pub short : length bs < 49
  pub same : take 9 bs ≡ take (length bs) heading

-- a byte of the heading is another one
pub record IsWrongHeading (at : ℕ) (bs : List ℕ) : Type 0 where
  pub low : at < 9
  pub within : at < length bs
  pub before : take at bs ≡ take at heading
  pub differs : slice_index bs at ≡ slice_index heading at → ⊥

-- bytes are the heading, a root, a number of rows, the codes of no more rows than that, in the order of a state, and these that are left
pub record Begins (bs root : List ℕ) (number : ℕ) (rows : List Row) (left : List ℕ) : Type 0 where
  pub is : bs ≡ heading ++ (root ++ (be64 number ++ (joined (each row_code rows) ++ left)))
  pub long : length root ≡ 32
  pub small : number < 2 ^ 64
  pub few : length rows ≤ number
  pub order : AreInOrder rows

-- no row that may be stored stands at the front of bytes
abbrev pub IsNoFront : List ℕ → Type 0
IsNoFront bs = (r : Row) (y : List ℕ) → IsStorable r → bs ≡ row_code r ++ y → ⊥

-- bytes are no proper prefix of the code of a row
abbrev pub IsNotCut : List ℕ → Type 0
IsNotCut bs = (r : Row) → IsRow r → length (row_code r) < 2 ^ 32 → (x y : List ℕ) → bs ++ x ≡ row_code r ++ y → length (row_code r) ≤ length bs

-- bytes are no proper prefix of the code of a row, and no row that may be stored stands at their front
pub record HasNoRow (bs : List ℕ) : Type 0 where
  pub whole : IsNotCut bs
  pub none : IsNoFront bs

-- at the front of bytes stands no row that may come after these: none that may be stored, or one that may not stand there
pub data IsNoNextRow (rows : List Row) (bs : List ℕ) : Type 0 where
  no_row : HasNoRow bs → IsNoNextRow rows bs
  misplaced : (r : Row) (y : List ℕ) → IsStorable r → bs ≡ row_code r ++ y → (AreInOrder (rows ++ r ∷ []) → ⊥) → IsNoNextRow rows bs

-- bytes end before the text of a state does: in its header, or in a row that is to come and is not whole
pub data EndsEarly (bs : List ℕ) : Type 0 where
  in_header : IsCutHeader bs → EndsEarly bs
  in_row : {root left : List ℕ} {number : ℕ} {rows : List Row} → Begins bs root number rows left → length rows < number → IsCutRow left → (length left < 2 ^ 32 → IsNoFront left) → EndsEarly bs

-- what stands at this place is in no text of a state: a byte of the heading, a row that is to come, or a byte past the end
pub data IsWrongAt (at : ℕ) (bs : List ℕ) : Type 0 where
  in_heading : IsWrongHeading at bs → IsWrongAt at bs
  in_row : {root left : List ℕ} {number : ℕ} {rows : List Row} → Begins bs root number rows left → length rows < number → at + length left ≡ length bs → IsNoNextRow rows left → IsWrongAt at bs
  past_end : {root left : List ℕ} {number : ℕ} {rows : List Row} → Begins bs root number rows left → length rows ≡ number → at + length left ≡ length bs → 0 < length left → IsWrongAt at bs

-- the ids of the receiver and of the data of the least step that these rows and the built-in receivers allow
abbrev pub IsLeastOf : List Row → List ℕ → List (List ℕ) → Type 0
IsLeastOf rows cont taken = (s : Step) × IsLeastAllowed (stored rows) [] s × (cont ≡ s.receiver) × (taken ≡ s.data_ids)

-- bytes are the text of rows that stand in the order of a state and allow this step, the least, where ids tell rows
pub record IsReducible (bs cont : List ℕ) (taken : List (List ℕ)) : Type 0 where
  pub rows : List Row
  pub is : bs ≡ state_text rows
  pub order : AreInOrder rows
  pub step : differ (first_ids rows) ≡ true → IsLeastOf rows cont taken

-- bytes are laid out as a state of rows in its order, and the root that they tell is not the root of these rows
pub record HasOtherRoot (bs stored found : List ℕ) : Type 0 where
  pub rows : List Row
  pub begins : Begins bs stored (length rows) rows []
  pub is : found ≡ root_of rows
  pub differs : stored ≡ found → ⊥
