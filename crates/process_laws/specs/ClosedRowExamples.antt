-- Examples of rows that are closed, and of some that are not.
use Rattle.std.specs.Prelude.{[], ◌∷◌}
use Rattle.calculus.specs.Rows.{stdout, stdout_ack}
use Rattle.calculus.specs.Examples.{num, the_var, sent, heard, on, a_var, row_of}
use Rattle.calculus.specs.Shape.{only}
use Rattle.process_laws.specs.ClosedRowLaws.{AreClosedRows}

-- rows that are closed, and rows that are not
pub record ClosedRowExamples : Type 0 where
  -- the two built-in receivers
  pub built_ins : AreClosedRows (stdout ∷ stdout_ack ∷ [])
  -- `for (@x <- @1) { @2!(x) }`
  pub variable_is_bound : AreClosedRows (row_of [] (heard (on (num 1) (a_var ∷ []) ∷ []) (only (sent (num 2) (the_var 0 ∷ [])))) ∷ [])
  -- `@2!(x)`
  pub variable_is_open : AreClosedRows (row_of [] (sent (num 2) (the_var 0 ∷ [])) ∷ []) → ⊥
  -- one closed row and that one
  pub all_count : AreClosedRows (stdout ∷ row_of [] (sent (num 2) (the_var 0 ∷ [])) ∷ []) → ⊥
