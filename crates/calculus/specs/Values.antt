-- The value of a closed process, its price and its first fault.
use Rattle.std.specs.Prelude.{ℕ, ◌+◌, ◌*◌, List, [], ◌∷◌, length, flat_map, sum_by, zip}
use Rattle.calculus.specs.Tree.{Label, par, row, list, tuple, set, dict, pair, bundle, unary, binary, method, Tree, node, Trees, none, also}
use Rattle.calculus.specs.Shape.{many, only, held, at}
use Rattle.calculus.specs.Code.{code, codes}
use Rattle.calculus.specs.Outcome.{Prices, Answer, gives, fails, unknown, Outcome, free, pure, charged, after, in_order, within_limits}
use Rattle.calculus.specs.Normal.{arranged_by, ascending, made_node}
use Rattle.calculus.specs.Operators.{binary_answer, unary_answer, of_set, of_map}
use Rattle.calculus.specs.Methods.{method_answer}

-- work on things with these codes, done in ascending order of the codes
abbrev pub in_code_order : {A : Type 0} → List (List ℕ) → List (Outcome A) → Outcome (List A)
in_code_order cs os = in_order (arranged_by (zip cs os))

-- an answer whose value is within the limits
abbrev pub checked : Answer Tree → Answer Tree
checked (gives t) = within_limits t
checked (fails f) = fails f
checked unknown = unknown

-- the price of an operator or a method on these values
abbrev pub op_price : Prices → List Tree → ℕ
op_price p vs = p.op + p.byte * sum_by (λ v. length (code v)) vs

-- an operator or a method on these values: first its price, then its faults, then the limits
abbrev pub operated : Prices → List Tree → Answer Tree → Outcome Tree
operated p vs a = charged (op_price p vs) (free (checked a))

-- the value of a form as a process, whose constituents have these codes and outcomes; a pair and a row have a pair and a row of values
abbrev pub formed : Prices → Label → Trees → List (List ℕ) → List (Outcome Tree) → Outcome Tree
formed p par ts cs os = after (in_code_order cs os) (λ vs. free (within_limits (made_node par (flat_map held vs))))
formed p list ts cs os = after (in_order os) (λ vs. free (within_limits (only (many list vs))))
formed p tuple ts cs os = after (in_order os) (λ vs. free (within_limits (only (many tuple vs))))
formed p set ts cs os = after (in_code_order cs os) (λ vs. free (within_limits (of_set vs)))
formed p dict ts cs os = after (in_code_order cs os) (λ vs. free (within_limits (of_map (ascending vs))))
formed p pair ts cs os = after (in_order os) (λ vs. pure (many pair vs))
formed p row ts cs os = after (in_order os) (λ vs. pure (many row vs))
formed p (bundle r) ts cs os = after (in_order os) (λ vs. pure (only (many (bundle r) vs)))
formed p (unary o) ts cs os = after (in_order os) (λ vs. operated p vs (unary_answer o (at 0 vs)))
formed p (binary o) ts cs os = after (in_order os) (λ vs. operated p vs (binary_answer o (at 0 vs) (at 1 vs)))
formed p (method n) ts cs os = after (in_order os) (λ vs. operated p (at 0 vs ∷ held (at 1 vs)) (method_answer n (at 0 vs) (held (at 1 vs))))
formed p l ts cs os = pure (only (node l ts))

unfoldable mutual
  -- the value of a closed process, or of one part of it, as a process
  pub value : Prices → Tree → Outcome Tree
  value p (node l ts) = formed p l ts (codes ts) (values p ts)

  -- the values of these, each by itself
  pub values : Prices → Trees → List (Outcome Tree)
  values p none = []
  values p (also t ts) = value p t ∷ values p ts
