-- What stands between texts of a list, and behind them.
use Rattle.std.specs.Prelude.{ℕ, cond, eqb, List, [], ◌++◌, codes}
use Rattle.calculus.specs.declared.plain.TermRest.{TermRest}
use Rattle.calculus.specs.declared.plain.TermRest.TheVariants as rests
use Rattle.calculus.specs.Printed.{variable_text}

-- what stands before text number i of a list
abbrev pub before : ℕ → List ℕ → List ℕ
before i mark = cond (eqb i 0) [] mark

-- a remainder after i members
abbrev pub remainder : ℕ → List ℕ → List ℕ → TermRest → ℕ → List ℕ
remainder i mark dots rests.No n = []
remainder i mark dots rests.Var n = before i mark ++ (dots ++ variable_text n)
remainder i mark dots rests.Wild n = before i mark ++ (dots ++ codes "_")
