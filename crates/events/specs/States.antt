-- The text of a state: its root and its rows.
use Rattle.std.specs.Prelude.{ℕ, List, ◌∷◌, ◌++◌, length, map as each, codes}
use Rattle.calculus.specs.Bytes.{be64, joined}
use Rattle.calculus.specs.Order.{sorted}
use Rattle.calculus.specs.Rows.{Row, row_code}
use Rattle.calculus.specs.Root.{root}

-- the text of a state with these rows, version 1: its name and version, the root, the number of rows, and their codes, ascending
abbrev pub state_text : List Row → List ℕ
state_text rows = codes "RHOSTATE" ++ (0x01 ∷ (root rows ++ (be64 (length rows) ++ joined (sorted (each row_code rows)))))
