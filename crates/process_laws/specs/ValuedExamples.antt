-- Examples of congruent processes and what they come to.
use Rattle.std.specs.Prelude.{[], ◌∷◌, codes}
use Rattle.calculus.specs.declared.plain.BinaryOp.TheVariants as op
use Rattle.calculus.specs.Tree.{binary, Tree}
use Rattle.calculus.specs.Shape.{two, process}
use Rattle.calculus.specs.Examples.{num, word, set_of, map_of, entry, op_on, call, op_prices}
use Rattle.calculus.specs.Values.{value}
use Rattle.process_laws.specs.ValuedLaws.{AreSame}

-- two processes come to the same
abbrev pub ComeToSame : Tree → Tree → Type 0
ComeToSame t u = AreSame (value op_prices t) (value op_prices u)

-- what comes to the same, and what does not
pub record SameExamples : Type 0 where
  -- `Set(1 + 1, 3).toList()` and `Set(3, 1 + 1).toList()`
  pub members_in_any_order : ComeToSame (call (codes "toList") (set_of (op_on op.Add (num 1) (num 1) ∷ num 3 ∷ [])) []) (call (codes "toList") (set_of (num 3 ∷ op_on op.Add (num 1) (num 1) ∷ [])) [])
  -- `1 / 0 | "a" + 1` and `"a" + 1 | 1 / 0`
  pub first_fault_in_any_order : ComeToSame (process (two (binary op.Div) (num 1) (num 0) ∷ two (binary op.Add) (word (codes "a")) (num 1) ∷ [])) (process (two (binary op.Add) (word (codes "a")) (num 1) ∷ two (binary op.Div) (num 1) (num 0) ∷ []))
  -- `{1: 2, 1: 3}` and `{1: 3, 1: 2}`
  pub same_pair_stays : ComeToSame (map_of (entry (num 1) (num 2) ∷ entry (num 1) (num 3) ∷ [])) (map_of (entry (num 1) (num 3) ∷ entry (num 1) (num 2) ∷ []))
  -- `1 + 1` and `2` have one value at two prices
  pub price_counts : ComeToSame (op_on op.Add (num 1) (num 1)) (num 2) → ⊥
