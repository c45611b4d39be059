-- Examples of values, with prices and faults.
use Rattle.std.specs.Prelude.{◌≡◌, ℕ, List, [], ◌∷◌, length, codes}
use Rattle.calculus.specs.declared.plain.BinaryOp.TheVariants as op
use Rattle.calculus.specs.declared.fault.FaultKind.TheVariants as fault
use Rattle.calculus.specs.declared.plain.Rights.TheVariants as rights
use Rattle.calculus.specs.Tree.{bytes, bundle, binary, Tree}
use Rattle.calculus.specs.Shape.{leaf, one, two, process, only}
use Rattle.calculus.specs.Examples.{whole, num, minus, word, yes, nil, list_of, tuple_of, set_of, map_of, entry, op_on, call, sent, sends_around, op_prices}
use Rattle.calculus.specs.declared.fault.FaultKind.{FaultKind}
use Rattle.calculus.specs.Outcome.{gives, fails}
use Rattle.calculus.specs.Values.{value}

-- a process evaluates at this price to this value
abbrev pub ValueIs : Tree → ℕ → Tree → Type 0
ValueIs t n v = value op_prices t ≡ record { price = n; answer = gives v }

-- the evaluation of a process ends at this price with this fault
abbrev pub FaultIs : Tree → ℕ → FaultKind → Type 0
FaultIs t n f = value op_prices t ≡ record { price = n; answer = fails f }

-- values, prices and first faults
pub record ValueExamples : Type 0 where
  -- `Nil`
  pub nil_is_nil : ValueIs nil 0 nil
  -- `1 | 1 + 1`
  pub parts_are_evaluated : ValueIs (process (whole 1 ∷ two (binary op.Add) (num 1) (num 1) ∷ [])) 27 (process (whole 1 ∷ whole 2 ∷ []))
  -- `7 / -2`
  pub division_truncates : ValueIs (op_on op.Div (num 7) (minus 2)) 27 (minus 3)
  -- `-7 % 2`
  pub remainder_has_the_left_sign : ValueIs (op_on op.Rem (minus 7) (num 2)) 27 (minus 1)
  -- `-9223372036854775808 % -1`
  pub remainder_overflows : FaultIs (op_on op.Rem (minus 9223372036854775808) (minus 1)) 27 fault.Overflow
  -- `1 / 0`
  pub division_by_zero : FaultIs (op_on op.Div (num 1) (num 0)) 27 fault.DivZero
  -- `bundle+ {1 | 1 + 1}`
  pub bundle_keeps_parts_in_order : ValueIs (only (one (bundle rights.Write) (process (whole 1 ∷ two (binary op.Add) (num 1) (num 1) ∷ [])))) 27 (only (one (bundle rights.Write) (process (whole 1 ∷ whole 2 ∷ []))))
  -- `(1 | 2) == (2 | 1)`
  pub equality_is_congruence : ValueIs (op_on op.Eq (process (whole 1 ∷ whole 2 ∷ [])) (process (whole 2 ∷ whole 1 ∷ []))) 45 yes
  -- `true or 1`
  pub no_short_cut : FaultIs (op_on op.Or yes (num 1)) 20 fault.WrongType
  -- `Set(1 + 1, 2, 3 - 1)`
  pub members_once : ValueIs (set_of (op_on op.Add (num 1) (num 1) ∷ num 2 ∷ op_on op.Sub (num 3) (num 1) ∷ [])) 54 (set_of (num 2 ∷ []))
  -- `{Set(1): 2, Set(1): 1, 3: {1: 1, 1: 0}}`
  pub greatest_value_stays : ValueIs (map_of (entry (set_of (num 1 ∷ [])) (num 2) ∷ entry (set_of (num 1 ∷ [])) (num 1) ∷ entry (num 3) (map_of (entry (num 1) (num 1) ∷ entry (num 1) (num 0) ∷ [])) ∷ [])) 0 (map_of (entry (num 3) (map_of (entry (num 1) (num 1) ∷ [])) ∷ entry (set_of (num 1 ∷ [])) (num 2) ∷ []))
  -- `{1: 1, 2: 2} ++ {2: 3, 3: 4}`
  pub right_pairs_win : ValueIs (op_on op.Append (map_of (entry (num 1) (num 1) ∷ entry (num 2) (num 2) ∷ [])) (map_of (entry (num 2) (num 3) ∷ entry (num 3) (num 4) ∷ []))) 123 (map_of (entry (num 1) (num 1) ∷ entry (num 2) (num 3) ∷ entry (num 3) (num 4) ∷ []))
  -- `"日本語".slice(1, 2)`
  pub slice_by_characters : ValueIs (call (codes "slice") (word (230 ∷ 151 ∷ 165 ∷ 230 ∷ 156 ∷ 172 ∷ 232 ∷ 170 ∷ 158 ∷ [])) (num 1 ∷ num 2 ∷ [])) 45 (word (230 ∷ 156 ∷ 172 ∷ []))
  -- `"abc".slice(9, "a")`
  pub kinds_before_index : FaultIs (call (codes "slice") (word (codes "abc")) (num 9 ∷ word (codes "a") ∷ [])) 36 fault.WrongType
  -- `"0aFF".hexToBytes()`
  pub digits_of_both_cases : ValueIs (call (codes "hexToBytes") (word (codes "0aFF")) []) 14 (only (leaf (bytes (10 ∷ 255 ∷ []))))
  -- `"a".length(1)`
  pub number_of_arguments : FaultIs (call (codes "length") (word (codes "a")) (num 1 ∷ [])) 24 fault.NoMethod
  -- `{2: 1, 1: 2}.toList()`
  pub pairs_ascend : ValueIs (call (codes "toList") (map_of (entry (num 2) (num 1) ∷ entry (num 1) (num 2) ∷ [])) []) 62 (list_of (tuple_of (num 1 ∷ num 2 ∷ []) ∷ tuple_of (num 2 ∷ num 1 ∷ []) ∷ []))
  -- `1 / 0 | "a" + 1`
  pub first_fault_in_code_order : FaultIs (process (two (binary op.Div) (num 1) (num 0) ∷ two (binary op.Add) (word (codes "a")) (num 1) ∷ [])) 24 fault.WrongType
  -- `@1!(1 + 1)`
  pub sends_are_not_evaluated : ValueIs (only (sent (num 1) (op_on op.Add (num 1) (num 1) ∷ []))) 0 (only (sent (num 1) (op_on op.Add (num 1) (num 1) ∷ [])))
  -- 400 sends inside one another, the greatest height
  pub deepest_value : ValueIs (sends_around 400 nil) 0 (sends_around 400 nil)
  -- and one more
  pub value_too_deep : FaultIs (sends_around 401 nil) 0 fault.TooDeep
  -- a String of 1,048,567 bytes, whose code has 9 more: the greatest length
  pub longest_value : (s : List ℕ) → length s ≡ 1048567 → ValueIs (word s) 0 (word s)
  -- and one more
  pub value_too_big : (s : List ℕ) → length s ≡ 1048568 → FaultIs (word s) 0 fault.TooBig
  -- that String in 401 sends inside one another: depth comes first
  pub too_deep_before_too_big : (s : List ℕ) → length s ≡ 1048568 → FaultIs (sends_around 401 (word s)) 0 fault.TooDeep
