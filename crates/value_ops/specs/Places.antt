-- Places in texts, and ranges of indices.
use Rattle.std.specs.Prelude.{◌≡◌, ◌≤◌, ℕ, leb, cond, List, length, take, pos, negsuc, Result, Ok, Err}
use Rattle.std.specs.Str.{IsCharBoundary}
use Rattle.calculus.specs.declared.fault.FaultKind.{FaultKind}
use Rattle.calculus.specs.declared.fault.FaultKind.TheVariants as fault
use Rattle.calculus.specs.Bytes.{joined}
use Rattle.calculus.specs.Operators.{Seen, an_int}
use Rattle.calculus.specs.Texts.{characters}

-- the character of index i begins at this place of a text, or the text ends there after i characters
pub record IsPlace (s : List ℕ) (i at : ℕ) : Type 0 where
  pub within : i ≤ length (characters s)
  pub before : at ≡ length (joined (take i (characters s)))
  pub boundary : IsCharBoundary s at

-- the indices that two arguments of `slice` are, or the fault that no length of the target mends
abbrev pub range_seen : Seen → Seen → Result (ℕ × ℕ) FaultKind
range_seen (an_int (pos i)) (an_int (pos j)) = cond (leb i j) (Ok (i, j)) (Err fault.Index)
range_seen (an_int i) (an_int j) = Err fault.Index
range_seen _ _ = Err fault.WrongType

-- the index that an argument is, or the fault that no length of the target mends
abbrev pub index_seen : Seen → Result ℕ FaultKind
index_seen (an_int (pos i)) = Ok i
index_seen (an_int (negsuc i)) = Err fault.Index
index_seen _ = Err fault.WrongType
