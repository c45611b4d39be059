use Rattle.std.proofs.Common.{◌||◌, take}
use Rattle.std.specs.List.{list_any}
use Rattle.events.specs.Shards.{stands_in}
use Rattle.shard_counts.specs.Bits.{AreBits}
use Rattle.rspace_table.specs.Hands.{shown_at}
use Rattle.rspace_table.proofs.held.Held.shards_of.Given as goal

abbrev pub invariant-loop-shard : goal.invariant-loop-shard
invariant-loop-shard l = AreBits (λ k. stands_in k l.op || list_any (λ x. shown_at x l.op k) (take l.shard-index l.shard-items)) l.bits
