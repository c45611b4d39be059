use Rattle.std.proofs.Common.{◌≡◌, length}
use Rattle.rspace_table.specs.Hands.{AreEmpty}
use Rattle.rspace_table.proofs.spreading.empty_shards.Given as goal

abbrev pub invariant-loop-number : goal.invariant-loop-number
invariant-loop-number l = (length l.shards.items ≡ l.number) × AreEmpty l.shards.items
