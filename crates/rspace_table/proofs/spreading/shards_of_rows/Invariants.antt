use Rattle.std.proofs.Common.{◌≡◌, length}
use Rattle.shard_tables.specs.Hands.{AreShardsOf, IdsDiffer}
use Rattle.rspace_table.proofs.spreading.shards_of_rows.Given as goal

abbrev pub invariant-loop-row : goal.invariant-loop-row
invariant-loop-row l = (length l.shards.items ≡ 64) × (IdsDiffer l.yielded → AreShardsOf (λ rows. rows) l.yielded l.shards.items)
