-- Laws of codes. Each stands in the contract of a public function that does nothing.
use Rattle.std.specs.Prelude.{◌≡◌, ◌<◌, ◌^◌, ℕ, List, [], ◌∷◌, ◌++◌, ⊤, length, IsTrue}
use Rattle.calculus.specs.Tree.{Tree}
use Rattle.calculus.specs.Form.{Sort, Scope, Fits, IsClosed}
use Rattle.calculus.specs.Congruence.{congruent}
use Rattle.calculus.specs.Code.{code}

-- the length of a tree's code has room in four bytes
abbrev pub IsShort : Tree → Type 0
IsShort t = length (code t) < 2 ^ 32

-- neither list is a proper prefix of the other
abbrev pub Splits : List ℕ → List ℕ → Type 0
Splits [] [] = ⊤
Splits [] (y ∷ ys) = ⊥
Splits (x ∷ xs) [] = ⊥
Splits (x ∷ xs) (y ∷ ys) = x ≡ y → Splits xs ys

-- of two trees of one sort neither has a code that is a proper prefix of the other's
abbrev pub CodesSplit : Type 0
CodesSplit = (s : Sort) (v w : Scope) (t u : Tree) → Fits s v t → Fits s w u → IsShort t → IsShort u → Splits (code t) (code u)

-- no closed process has a code that is followed by more bytes in the code of another
abbrev pub NoCodeIsPrefix : Type 0
NoCodeIsPrefix = (t u : Tree) → IsClosed t → IsClosed u → IsShort t → IsShort u → (x : ℕ) (xs : List ℕ) → code u ≡ code t ++ x ∷ xs → ⊥

-- closed processes have one code exactly where they are congruent
abbrev pub CodeIsCongruence : Type 0
CodeIsCongruence = (t u : Tree) → IsClosed t → IsClosed u → IsShort t → IsShort u → (code t ≡ code u → IsTrue (congruent t u)) × (IsTrue (congruent t u) → code t ≡ code u)
