use Rattle.std.proofs.Common.{◌≡◌, map}
use Rattle.rho_term.specs.Rows.{row_of_op}
use Rattle.unfold.proofs.work.rows_of.Given as goal

abbrev pub invariant-loop-operation : goal.invariant-loop-operation
invariant-loop-operation l = l.rows.items ≡ map row_of_op l.yielded
