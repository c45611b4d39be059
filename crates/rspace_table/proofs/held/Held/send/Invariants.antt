use Rattle.std.proofs.Common.{◌≡◌, drop}
use Rattle.row_search.specs.Rows.{row_with}
use Rattle.rspace_table.specs.Hands.{all_sends}
use Rattle.rspace_table.proofs.held.Held.send.Given as goal

abbrev pub invariant-loop-shard : goal.invariant-loop-shard
invariant-loop-shard l = row_with l.id.0 (all_sends l.shard-items) ≡ row_with l.id.0 (all_sends (drop l.shard-index l.shard-items))
