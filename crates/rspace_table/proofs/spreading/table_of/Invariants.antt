use Rattle.std.proofs.Common.{map}
use Rattle.std.specs.Prelude.{IsPermutation}
use Rattle.rho_term.specs.Rows.{row_of_op}
use Rattle.shard_tables.specs.Hands.{IdsDiffer}
use Rattle.rspace_table.proofs.spreading.table_of.Given as goal

abbrev pub invariant-loop-operation : goal.invariant-loop-operation
invariant-loop-operation l = IdsDiffer (map row_of_op l.yielded) → IsPermutation (map row_of_op l.yielded) l.table
