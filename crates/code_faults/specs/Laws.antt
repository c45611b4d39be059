-- Laws of places that are wrong. Each stands in the contract of a public function that does nothing.
use Rattle.std.specs.Prelude.{◌≡◌, ℕ, ◌<◌, List, ◌++◌, ◌⊎◌, take}
use Rattle.calculus.specs.Tree.{Tree}
use Rattle.calculus.specs.Size.{height}
use Rattle.calculus.specs.Code.{code}
use Rattle.calculus.specs.CodeLaws.{IsShort}
use Rattle.calculus.specs.Form.{IsClosed}
use Rattle.code_faults.specs.Blaming.{IsWrongAt, IsDeepAt, IsNamelessAt}

-- bytes that are wrong at a place are no code of a closed process, and no prefix of one
abbrev pub WrongBytesAreNoCode : Type 0
WrongBytesAreNoCode = (at : ℕ) (bs : List ℕ) → IsWrongAt at bs → (t : Tree) → IsClosed t → IsShort t → (x : List ℕ) → bs ++ x ≡ code t → ⊥

-- nor are those that have a method's name of no bytes at a place
abbrev pub NamelessBytesAreNoCode : Type 0
NamelessBytesAreNoCode = (at : ℕ) (bs : List ℕ) → IsNamelessAt at bs → (t : Tree) → IsClosed t → IsShort t → (x : List ℕ) → bs ++ x ≡ code t → ⊥

-- bytes are wrong at no later place, but where no such code begins with the bytes before that
abbrev pub WrongAtOnePlace : Type 0
WrongAtOnePlace = (i j : ℕ) (bs : List ℕ) → IsWrongAt i bs → IsWrongAt j bs → i < j → (t : Tree) → IsClosed t → IsShort t → (x : List ℕ) → take j bs ++ x ≡ code t → ⊥

-- bytes that are wrong at a place, or have a method's name of no bytes there, are not too deep at it, but where no such code begins with the bytes before it
abbrev pub OneCauseAtOnePlace : Type 0
OneCauseAtOnePlace = (at : ℕ) (bs : List ℕ) → IsWrongAt at bs ⊎ IsNamelessAt at bs → IsDeepAt at bs → (t : Tree) → IsClosed t → IsShort t → (x : List ℕ) → take at bs ++ x ≡ code t → ⊥

-- bytes that are too deep at a place begin the code of no closed process of height at most 400
abbrev pub DeepBytesAreHigh : Type 0
DeepBytesAreHigh = (at : ℕ) (bs : List ℕ) → IsDeepAt at bs → (t : Tree) → IsClosed t → IsShort t → (x : List ℕ) → bs ++ x ≡ code t → 400 < height t
