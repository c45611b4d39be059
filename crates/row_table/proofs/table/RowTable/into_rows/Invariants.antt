use Rattle.std.proofs.Common.{◌≡◌}
use Rattle.row_table.specs.Tables.{rows_in}
use Rattle.row_table.proofs.table.RowTable.into_rows.Given as goal

abbrev pub invariant-loop-filed : goal.invariant-loop-filed
invariant-loop-filed l = l.list.items ≡ rows_in l.yielded
