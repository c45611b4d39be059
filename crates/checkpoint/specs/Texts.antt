-- The text of a state from its root and the codes of its rows.
use Rattle.std.specs.Prelude.{ℕ, List, ◌∷◌, ◌++◌, length, codes}
use Rattle.calculus.specs.Bytes.{be64, joined}

-- what stands before the codes of so many rows: the name and the version, the root, and their number
abbrev pub head_with : List ℕ → ℕ → List ℕ
head_with root n = codes "RHOSTATE" ++ (0x01 ∷ (root ++ be64 n))

-- the text of a state of this root and these codes, as they stand
abbrev pub text_with : List ℕ → List (List ℕ) → List ℕ
text_with root cs = codes "RHOSTATE" ++ (0x01 ∷ (root ++ (be64 (length cs) ++ joined cs)))
