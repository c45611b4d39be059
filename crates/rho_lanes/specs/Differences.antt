-- Where two lists of bytes differ.
use Rattle.std.specs.Prelude.{◌≡◌, ℕ, List, [], ◌∷◌, ⊤, Option, Some, None, take, drop}

-- two lists differ in their first byte, or one alone has none
abbrev pub AreParted : List ℕ → List ℕ → Type 0
AreParted [] [] = ⊥
AreParted [] (y ∷ ys) = ⊤
AreParted (x ∷ xs) [] = ⊤
AreParted (x ∷ xs) (y ∷ ys) = x ≡ y → ⊥

-- the first place where two lists differ or the shorter one ends; there is none where they are equal
abbrev pub IsFirstDifference : List ℕ → List ℕ → Option ℕ → Type 0
IsFirstDifference xs ys None = xs ≡ ys
IsFirstDifference xs ys (Some i) = (take i xs ≡ take i ys) × AreParted (drop i xs) (drop i ys)
