use Rattle.std.proofs.Common.{◌≡◌, map as each}
use Rattle.replay_rows.specs.Rows.{seen_row, once_more}
use Rattle.replay_rows.proofs.Counting.{upto}
use Rattle.replay_rows.proofs.rows.count_all.Given as goal

abbrev pub invariant-loop-i : goal.invariant-loop-i
invariant-loop-i l = each seen_row l.list ≡ upto once_more l.i (each seen_row l.initial.list)
