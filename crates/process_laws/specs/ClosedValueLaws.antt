-- Laws of closed values. Each stands in the contract of a public function that does nothing.
use Rattle.std.specs.Prelude.{◌≡◌, ◌≤◌, ℕ, List, [], ◌∷◌, length, ⊤}
use Rattle.calculus.specs.declared.plain.UnaryOp.{UnaryOp}
use Rattle.calculus.specs.declared.plain.BinaryOp.{BinaryOp}
use Rattle.calculus.specs.Tree.{par, Tree, node, Trees}
use Rattle.calculus.specs.Size.{height}
use Rattle.calculus.specs.Code.{code}
use Rattle.calculus.specs.CodeLaws.{IsShort}
use Rattle.calculus.specs.Form.{IsClosed}
use Rattle.calculus.specs.Outcome.{Prices, Answer, gives, fails, unknown}
use Rattle.calculus.specs.Operators.{unary_answer, binary_answer}
use Rattle.calculus.specs.Methods.{method_answer}
use Rattle.calculus.specs.Values.{value}

-- an answer's result, where there is one, is closed
abbrev pub GivesClosed : Answer Tree → Type 0
GivesClosed (gives t) = IsClosed t
GivesClosed (fails f) = ⊤
GivesClosed unknown = ⊤

-- each of these is closed
abbrev pub AreClosed : List Tree → Type 0
AreClosed [] = ⊤
AreClosed (t ∷ ts) = IsClosed t × AreClosed ts

-- an operator on a closed process whose code has room in four bytes
abbrev pub UnaryIsClosed : Type 0
UnaryIsClosed = (o : UnaryOp) (t : Tree) → IsClosed t → IsShort t → GivesClosed (unary_answer o t)

-- an operator on two of them
abbrev pub BinaryIsClosed : Type 0
BinaryIsClosed = (o : BinaryOp) (t u : Tree) → IsClosed t → IsShort t → IsClosed u → IsShort u → GivesClosed (binary_answer o t u)

-- a method of one of them on closed arguments
abbrev pub MethodIsClosed : Type 0
MethodIsClosed = (n : List ℕ) (t : Tree) (us : List Tree) → IsClosed t → IsShort t → AreClosed us → GivesClosed (method_answer n t us)

-- the value of a closed process
abbrev pub ValueIsClosed : Type 0
ValueIsClosed = (p : Prices) (t : Tree) → IsClosed t → GivesClosed (value p t).answer

-- the value of a process is within the limits of height and code
abbrev pub ValueIsWithin : Type 0
ValueIsWithin = (p : Prices) (ts : Trees) (v : Tree) → (value p (node par ts)).answer ≡ gives v → (height v ≤ 400) × (length (code v) ≤ 1048576)
