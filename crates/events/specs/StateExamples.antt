-- Examples of texts of states.
use Rattle.std.specs.Prelude.{◌≡◌, ℕ, List, [], ◌∷◌, ◌++◌, length, replicate, codes}
use Rattle.calculus.specs.Tree.{str}
use Rattle.calculus.specs.Shape.{leaf, only}
use Rattle.calculus.specs.Examples.{hex, num, sent, row_of}
use Rattle.calculus.specs.Rows.{Row}
use Rattle.events.specs.States.{state_text}

-- the id of the one row that is left of `new c in { c!(5) | for (@x <- c) { @"out"!(x) } }`
abbrev pub out_id : List ℕ
out_id = hex (codes "dff069940417b8a95f846b82a8ae166085ba8d46a5a99ba994a1e4500990be8f")

-- that row: 5 on the channel "out"
abbrev pub out_row : Row
out_row = row_of out_id (sent (only (leaf (str (codes "out")))) (num 5 ∷ []))

-- texts of states
pub record StateExamples : Type 0 where
  -- the state without rows: a root of zeros, and no rows
  pub no_rows : state_text [] ≡ codes "RHOSTATE" ++ (1 ∷ replicate 40 0)
  -- it has 49 bytes
  pub its_length : length (state_text []) ≡ 49
  -- a state of one row, byte for byte as another implementation of the format wrote it
  pub one_row : state_text (out_row ∷ []) ≡ hex (codes "52484f5354415445016f62476791fb224f244f82b68b5997bde5a2d543e06d46dd4bc4e40369e948a1000000000000000101dff069940417b8a95f846b82a8ae166085ba8d46a5a99ba994a1e4500990be8f0000000112000000036f7574000000000100000001118000000000000005")
