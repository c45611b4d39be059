-- What calls on values answer, and what they ask of their operands.
use Rattle.std.specs.Prelude.{◌≡◌, Option, Some, None, Result, Ok, Err, ⊤, ℤ}
use Rattle.calculus.specs.declared.plain.BinaryOp.{BinaryOp}
use Rattle.calculus.specs.declared.plain.BinaryOp.TheVariants as op
use Rattle.calculus.specs.declared.plain.Ground.{Ground}
use Rattle.calculus.specs.Tree.{Tree}
use Rattle.calculus.specs.Shape.{only}
use Rattle.calculus.specs.Outcome.{Answer, gives, fails}
use Rattle.calculus.specs.Operators.{Seen, a_bool, an_int, a_text, some_bytes, a_list, a_tuple, a_set, a_map, seen}
use Rattle.calculus.specs.CodeLaws.{IsShort}
use Rattle.calculus.specs.Form.{IsClosed}
use Rattle.rho_term.specs.Parts.{ground_tree}
use Rattle.calculus.specs.declared.fault.FaultKind.TheVariants as fault
use Rattle.hex.specs.declared.error.FromHexError.{FromHexError}
use Rattle.hex.specs.declared.error.FromHexError.TheVariants.{OutOfMemory}
use Rattle.value_ops.specs.declared.stop.OpStop.{OpStop}
use Rattle.value_ops.specs.declared.stop.OpStop.TheVariants as stop

-- a call gives this value, or stops with this fault, or memory ran out
abbrev pub Answers : Answer Tree → Result Tree OpStop → Type 0
Answers a (Ok t) = a ≡ gives t
Answers a (Err (stop.Fault f)) = a ≡ fails f
Answers a (Err stop.NoMemory) = ⊤

-- the same of a ground value
abbrev pub AnswersGround : Answer Tree → Result Ground OpStop → Type 0
AnswersGround a (Ok g) = a ≡ gives (only (ground_tree g))
AnswersGround a (Err (stop.Fault f)) = a ≡ fails f
AnswersGround a (Err stop.NoMemory) = ⊤

-- this is no list, tuple, set or map
abbrev pub IsNoCollection : Seen → Type 0
IsNoCollection (a_list ts) = ⊥
IsNoCollection (a_tuple ts) = ⊥
IsNoCollection (a_set ts) = ⊥
IsNoCollection (a_map ts) = ⊥
IsNoCollection _ = ⊤

-- this is no ground value but a Uri
abbrev pub IsNoGround : Seen → Type 0
IsNoGround (a_bool b) = ⊥
IsNoGround (an_int z) = ⊥
IsNoGround (a_text s) = ⊥
IsNoGround (some_bytes s) = ⊥
IsNoGround _ = ⊤

-- a closed process whose code has room in four bytes
pub record IsOperand (t : Tree) : Type 0 where
  pub closed : IsClosed t
  pub short : IsShort t

-- two of them
abbrev pub AreOperands : Tree → Tree → Type 0
AreOperands t u = IsOperand t × IsOperand u

-- the operators that compare any two values
abbrev pub IsEquality : BinaryOp → Type 0
IsEquality op.Eq = ⊤
IsEquality op.Ne = ⊤
IsEquality _ = ⊥

-- the Int that this is
abbrev pub int_seen : Seen → Option ℤ
int_seen (an_int z) = Some z
int_seen _ = None

-- why a text of digits is not read
abbrev pub hex_stop : FromHexError → OpStop
hex_stop OutOfMemory = stop.NoMemory
hex_stop _ = stop.Fault fault.WrongType
