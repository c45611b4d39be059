-- The order of codes, and lists of codes in that order.
use Rattle.std.specs.Prelude.{◌≡◌, ℕ, List, [], ◌∷◌, ⊤, Bool, true, if◌then◌else◌}
use Rattle.std.specs.Ordering.{is_le, nat_cmp}
use Rattle.std.specs.Cmp.Lexicographic.{slice_cmp}
use Rattle.std.specs.declared.cmp.Ordering.{Ordering}

-- how two lists of bytes compare: at the first byte that differs, and else the shorter one is less
abbrev pub byte_cmp : List ℕ → List ℕ → Ordering
byte_cmp = slice_cmp nat_cmp

-- whether the one list of bytes is less than the other, or equal
abbrev pub up_to : List ℕ → List ℕ → Bool
up_to x y = is_le (byte_cmp x y)

-- a list of bytes among ascending ones, before the first that is not less
unfoldable pub placed : List ℕ → List (List ℕ) → List (List ℕ)
placed x [] = x ∷ []
placed x (y ∷ ys) = if up_to x y then x ∷ y ∷ ys else y ∷ placed x ys

-- these lists of bytes, ascending
unfoldable pub sorted : List (List ℕ) → List (List ℕ)
sorted [] = []
sorted (x ∷ xs) = placed x (sorted xs)

-- a list of bytes is no greater than the first of these, where there is one
abbrev pub IsBelowFirst : List ℕ → List (List ℕ) → Type 0
IsBelowFirst x [] = ⊤
IsBelowFirst x (y ∷ ys) = up_to x y ≡ true

-- these lists of bytes ascend
abbrev pub IsAscending : List (List ℕ) → Type 0
IsAscending [] = ⊤
IsAscending (x ∷ xs) = IsBelowFirst x xs × IsAscending xs
