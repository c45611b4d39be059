-- The numbers of the plain kinds, as codes have them.
use Rattle.std.specs.Prelude.{◌≡◌, ℕ, zero, suc, List, [], ◌∷◌, refl}
use Rattle.calculus.specs.declared.plain.Simple.{Simple}
use Rattle.calculus.specs.declared.plain.Simple.TheVariants as simple
use Rattle.calculus.specs.declared.plain.Kind.{Kind}
use Rattle.calculus.specs.declared.plain.Kind.TheVariants as kind
use Rattle.calculus.specs.declared.plain.Rights.{Rights}
use Rattle.calculus.specs.declared.plain.Rights.TheVariants as rights
use Rattle.calculus.specs.declared.plain.UnaryOp.{UnaryOp}
use Rattle.calculus.specs.declared.plain.UnaryOp.TheVariants as unary_op
use Rattle.calculus.specs.declared.plain.BinaryOp.{BinaryOp}
use Rattle.calculus.specs.declared.plain.BinaryOp.TheVariants as binary_op
use Rattle.calculus.specs.declared.plain.TermRest.{TermRest}
use Rattle.calculus.specs.declared.plain.TermRest.TheVariants as rest
use Rattle.calculus.specs.declared.plain.Origin.{Origin}
use Rattle.calculus.specs.declared.plain.Origin.TheVariants as origin

-- the member of index n from 0 on, or d where the list has none
abbrev pub pick : {A : Type 0} → A → List A → ℕ → A
pick d [] n = d
pick d (x ∷ xs) zero = x
pick d (x ∷ xs) (suc n) = pick d xs n

-- the number of a simple type
abbrev pub simple_number : Simple → ℕ
simple_number simple.Bool = 0
simple_number simple.Int = 1
simple_number simple.Str = 2
simple_number simple.Uri = 3
simple_number simple.Bytes = 4

-- the simple type of this number
abbrev pub simple_of : ℕ → Simple
simple_of = pick simple.Bool (simple.Bool ∷ simple.Int ∷ simple.Str ∷ simple.Uri ∷ simple.Bytes ∷ [])

-- the number gives it back
pub simple_of-number : (x : Simple) → simple_of (simple_number x) ≡ x
simple_of-number simple.Bool = refl
simple_of-number simple.Int = refl
simple_of-number simple.Str = refl
simple_of-number simple.Uri = refl
simple_of-number simple.Bytes = refl

-- the number of a kind of receive
abbrev pub kind_number : Kind → ℕ
kind_number kind.Linear = 0
kind_number kind.Persistent = 1
kind_number kind.Peek = 2

-- the kind of receive of this number
abbrev pub kind_of : ℕ → Kind
kind_of = pick kind.Linear (kind.Linear ∷ kind.Persistent ∷ kind.Peek ∷ [])

-- the number gives it back
pub kind_of-number : (x : Kind) → kind_of (kind_number x) ≡ x
kind_of-number kind.Linear = refl
kind_of-number kind.Persistent = refl
kind_of-number kind.Peek = refl

-- the number of a bundle's rights
abbrev pub rights_number : Rights → ℕ
rights_number rights.Neither = 0
rights_number rights.Write = 1
rights_number rights.Read = 2
rights_number rights.Both = 3

-- the rights of this number
abbrev pub rights_of : ℕ → Rights
rights_of = pick rights.Neither (rights.Neither ∷ rights.Write ∷ rights.Read ∷ rights.Both ∷ [])

-- the number gives them back
pub rights_of-number : (x : Rights) → rights_of (rights_number x) ≡ x
rights_of-number rights.Neither = refl
rights_of-number rights.Write = refl
rights_of-number rights.Read = refl
rights_of-number rights.Both = refl

-- the number of an operator on one process
abbrev pub unary_op_number : UnaryOp → ℕ
unary_op_number unary_op.Not = 0
unary_op_number unary_op.Neg = 1

-- the operator on one process of this number
abbrev pub unary_op_of : ℕ → UnaryOp
unary_op_of = pick unary_op.Not (unary_op.Not ∷ unary_op.Neg ∷ [])

-- the number gives it back
pub unary_op_of-number : (x : UnaryOp) → unary_op_of (unary_op_number x) ≡ x
unary_op_of-number unary_op.Not = refl
unary_op_of-number unary_op.Neg = refl

-- the number of an operator on two processes
abbrev pub binary_op_number : BinaryOp → ℕ
binary_op_number binary_op.Or = 0
binary_op_number binary_op.And = 1
binary_op_number binary_op.Eq = 2
binary_op_number binary_op.Ne = 3
binary_op_number binary_op.Lt = 4
binary_op_number binary_op.Le = 5
binary_op_number binary_op.Gt = 6
binary_op_number binary_op.Ge = 7
binary_op_number binary_op.Add = 8
binary_op_number binary_op.Sub = 9
binary_op_number binary_op.Append = 10
binary_op_number binary_op.Minus = 11
binary_op_number binary_op.Mul = 12
binary_op_number binary_op.Div = 13
binary_op_number binary_op.Rem = 14

-- the operator on two processes of this number
abbrev pub binary_op_of : ℕ → BinaryOp
binary_op_of = pick binary_op.Or (binary_op.Or ∷ binary_op.And ∷ binary_op.Eq ∷ binary_op.Ne ∷ binary_op.Lt ∷ binary_op.Le ∷ binary_op.Gt ∷ binary_op.Ge ∷ binary_op.Add ∷ binary_op.Sub ∷ binary_op.Append ∷ binary_op.Minus ∷ binary_op.Mul ∷ binary_op.Div ∷ binary_op.Rem ∷ [])

-- the number gives it back
pub binary_op_of-number : (x : BinaryOp) → binary_op_of (binary_op_number x) ≡ x
binary_op_of-number binary_op.Or = refl
binary_op_of-number binary_op.And = refl
binary_op_of-number binary_op.Eq = refl
binary_op_of-number binary_op.Ne = refl
binary_op_of-number binary_op.Lt = refl
binary_op_of-number binary_op.Le = refl
binary_op_of-number binary_op.Gt = refl
binary_op_of-number binary_op.Ge = refl
binary_op_of-number binary_op.Add = refl
binary_op_of-number binary_op.Sub = refl
binary_op_of-number binary_op.Append = refl
binary_op_of-number binary_op.Minus = refl
binary_op_of-number binary_op.Mul = refl
binary_op_of-number binary_op.Div = refl
binary_op_of-number binary_op.Rem = refl

-- the number of a remainder
abbrev pub rest_number : TermRest → ℕ
rest_number rest.No = 0
rest_number rest.Var = 1
rest_number rest.Wild = 2

-- the remainder of this number
abbrev pub rest_of : ℕ → TermRest
rest_of = pick rest.No (rest.No ∷ rest.Var ∷ rest.Wild ∷ [])

-- the number gives it back
pub rest_of-number : (x : TermRest) → rest_of (rest_number x) ≡ x
rest_of-number rest.No = refl
rest_of-number rest.Var = refl
rest_of-number rest.Wild = refl

-- the number of an origin of a name
abbrev pub origin_number : Origin → ℕ
origin_number origin.Plain = 0
origin_number origin.Stdout = 1
origin_number origin.StdoutAck = 2

-- the origin of a name of this number
abbrev pub origin_of : ℕ → Origin
origin_of = pick origin.Plain (origin.Plain ∷ origin.Stdout ∷ origin.StdoutAck ∷ [])

-- the number gives it back
pub origin_of-number : (x : Origin) → origin_of (origin_number x) ≡ x
origin_of-number origin.Plain = refl
origin_of-number origin.Stdout = refl
origin_of-number origin.StdoutAck = refl
