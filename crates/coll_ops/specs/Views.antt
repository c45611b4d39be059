-- Which kinds of value are collections, and what is told of them.
use Rattle.std.specs.Prelude.{◌≡◌, Bool, false, List, map as each, All, Result, Ok, Err, ⊤}
use Rattle.calculus.specs.declared.fault.FaultKind.{FaultKind}
use Rattle.calculus.specs.declared.plain.BinaryOp.{BinaryOp}
use Rattle.calculus.specs.declared.plain.BinaryOp.TheVariants as op
use Rattle.calculus.specs.Tree.{Tree}
use Rattle.calculus.specs.Code.{code}
use Rattle.calculus.specs.Order.{IsAscending}
use Rattle.calculus.specs.Operators.{Seen, a_list, a_tuple, a_set, a_map, seen}
use Rattle.calculus.specs.Outcome.{Answer, gives, fails}
use Rattle.rho_term.specs.Normal.{IsNormal}
use Rattle.rho_term.specs.Parts.{pair_tree}
use Rattle.value_ops.specs.Answers.{IsOperand}

-- a list, a tuple, a set or a map
abbrev pub IsCollectionKind : Seen → Type 0
IsCollectionKind (a_list ts) = ⊤
IsCollectionKind (a_tuple ts) = ⊤
IsCollectionKind (a_set ts) = ⊤
IsCollectionKind (a_map ts) = ⊤
IsCollectionKind _ = ⊥

-- a value that is one list, tuple, set or map
abbrev pub IsCollection : Tree → Type 0
IsCollection t = IsCollectionKind (seen t)

-- an operator that is neither `==` nor `!=`
abbrev pub IsNoEquality : BinaryOp → Type 0
IsNoEquality op.Eq = ⊥
IsNoEquality op.Ne = ⊥
IsNoEquality _ = ⊤

-- an operand in normal order
pub record IsValue (t : Tree) : Type 0 where
  pub operand : IsOperand t
  pub normal : IsNormal t

-- pairs whose keys are operands, and which ascend in their codes
pub record ArePairs (ps : List (Tree × Tree)) : Type 0 where
  pub keys : All (λ p. IsOperand p.0) ps
  pub up : IsAscending (each code (each pair_tree ps))

-- a value is told, which counts unless making it failed, or a fault
abbrev pub Tells : Bool → Answer Tree → Result Tree FaultKind → Type 0
Tells failed a (Ok t) = failed ≡ false → a ≡ gives t
Tells failed a (Err f) = a ≡ fails f
