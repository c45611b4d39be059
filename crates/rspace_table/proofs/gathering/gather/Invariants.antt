use Rattle.std.proofs.Common.{◌≡◌, length}
use Rattle.row_shards.specs.Homes.{gathered}
use Rattle.rspace_table.proofs.gathering.gather.Given as goal

abbrev pub invariant-loop-shard : goal.invariant-loop-shard
invariant-loop-shard l = (l.number ≡ length l.yielded) × (l.rows.items ≡ gathered 0 l.yielded)
