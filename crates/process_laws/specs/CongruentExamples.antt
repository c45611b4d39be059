-- Examples of processes that unfold alike, and of some that do not.
use Rattle.std.specs.Prelude.{[], ◌∷◌, codes}
use Rattle.calculus.specs.declared.plain.BinaryOp.TheVariants as op
use Rattle.calculus.specs.Tree.{binary, Tree}
use Rattle.calculus.specs.Shape.{two, process, only}
use Rattle.calculus.specs.Examples.{num, word, op_on, sent, heard, on, a_var, prices}
use Rattle.calculus.specs.Outcome.{over, within}
use Rattle.calculus.specs.Unfolding.{unfold_in}
use Rattle.calculus.specs.Runs.{Work}
use Rattle.process_laws.specs.CongruentLaws.{IsSameWork}

-- the work of a process with the empty list as its seed
abbrev pub work : Tree → Work
work t = within (unfold_in prices 9 t [])

-- what is the same work, and what is not
pub record SameWorkExamples : Type 0 where
  -- `for (@x <- @1) { @2!(3) | @4!(5) }` and `for (@x <- @1) { @4!(5) | @2!(3) }`
  pub bodies_in_any_order : IsSameWork (work (only (heard (on (num 1) (a_var ∷ []) ∷ []) (process (sent (num 2) (num 3 ∷ []) ∷ sent (num 4) (num 5 ∷ []) ∷ []))))) (work (only (heard (on (num 1) (a_var ∷ []) ∷ []) (process (sent (num 4) (num 5 ∷ []) ∷ sent (num 2) (num 3 ∷ []) ∷ [])))))
  -- `@1!(2) | 1 / 0` and `1 / 0 | @1!(2)`
  pub one_fault : IsSameWork (work (process (sent (num 1) (num 2 ∷ []) ∷ two (binary op.Div) (num 1) (num 0) ∷ []))) (work (process (two (binary op.Div) (num 1) (num 0) ∷ sent (num 1) (num 2 ∷ []) ∷ [])))
  -- `@1!(2)` and `@1!(3)`
  pub rows_count : IsSameWork (work (only (sent (num 1) (num 2 ∷ [])))) (work (only (sent (num 1) (num 3 ∷ [])))) → ⊥
  -- `@1!(2)` and `@1!(1 + 1)` offer one row at two prices
  pub price_counts : IsSameWork (work (only (sent (num 1) (num 2 ∷ [])))) (work (only (sent (num 1) (op_on op.Add (num 1) (num 1) ∷ [])))) → ⊥
  -- `1 / 0` and `1 + "a"` end at one price with two faults
  pub fault_counts : IsSameWork (work (op_on op.Div (num 1) (num 0))) (work (op_on op.Add (num 1) (word (codes "a")))) → ⊥
  -- what passes the cap is unlike what does not
  pub cap_counts : IsSameWork over (work (only (sent (num 1) (num 2 ∷ [])))) → ⊥
