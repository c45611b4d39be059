-- The levels of operators as sorts of the grammar.
use Rattle.std.specs.Prelude.{◌≡◌, ℕ, suc, List, Option, Some, None}
use Rattle.calculus.specs.declared.plain.BinaryOp.{BinaryOp}
use Rattle.grammar.specs.declared.dialect.Dialect.TheVariants.{Tutorial}
use Rattle.grammar.specs.declared.mark.Mark.{Mark}
use Rattle.grammar.specs.Choice.{choose}
use Rattle.grammar.specs.Grammar.{rule}
use Rattle.grammar.specs.Rules.{Sort, done, opens, under, last}
use Rattle.grammar.specs.Terminals.{Terminal}
use Rattle.grammar.specs.Values.{Spelt, operation}
use Rattle.token_cursor.specs.declared.level.Level.{Level}
use Rattle.token_cursor.specs.declared.level.Level.TheVariants as levels

-- the sort of a level
abbrev pub sort_of : Level → Sort
sort_of levels.Or = Sort.Or
sort_of levels.And = Sort.And
sort_of levels.Eq = Sort.Eq
sort_of levels.Cmp = Sort.Cmp
sort_of levels.Sum = Sort.Sum
sort_of levels.Mul = Sort.Mul

-- what follows an operand on a level
abbrev pub tail_of : Level → Spelt → Sort
tail_of levels.Or = Sort.OrTail
tail_of levels.And = Sort.AndTail
tail_of levels.Eq = Sort.EqTail
tail_of levels.Cmp = Sort.CmpTail
tail_of levels.Sum = Sort.SumTail
tail_of levels.Mul = Sort.MulTail

-- the next tighter level
abbrev pub inner_of : Level → Option Level
inner_of levels.Or = Some levels.And
inner_of levels.And = Some levels.Eq
inner_of levels.Eq = Some levels.Cmp
inner_of levels.Cmp = Some levels.Sum
inner_of levels.Sum = Some levels.Mul
inner_of levels.Mul = None

-- the sort of a level, or of what stands on both sides of the tightest operators
abbrev pub level_or_prefix : Option Level → Sort
level_or_prefix (Some l) = sort_of l
level_or_prefix None = Sort.Pre

-- the sort of the operands of a level
abbrev pub operand_of : Level → Sort
operand_of l = level_or_prefix (inner_of l)

-- the operator of a level that is next, with its mark; there is none where the chain ends
abbrev pub GoesOn : Level → List Terminal → Option (Mark × BinaryOp) → Type 0
GoesOn l ts (Some (m, o)) = (a : Spelt) → rule Tutorial (choose (tail_of l a) ts) ≡ opens m a.height (under (operand_of l) (λ b. last (tail_of l (operation o a b))))
GoesOn l ts None = (a : Spelt) → rule Tutorial (choose (tail_of l a) ts) ≡ done a

-- how many tighter levels there are
abbrev pub looseness_of : Level → ℕ
looseness_of levels.Or = 5
looseness_of levels.And = 4
looseness_of levels.Eq = 3
looseness_of levels.Cmp = 2
looseness_of levels.Sum = 1
looseness_of levels.Mul = 0

-- how many levels an operand may be of
abbrev pub levels_below : Option Level → ℕ
levels_below None = 0
levels_below (Some l) = suc (looseness_of l)
