use Rattle.std.proofs.Common.{eqb, take}
use Rattle.std.specs.List.{list_any}
use Rattle.calculus.specs.Storing.{shard}
use Rattle.shard_counts.specs.Bits.{AreBits}
use Rattle.row_shards.proofs.bits.bind_bits.Given as goal

abbrev pub invariant-loop-bind : goal.invariant-loop-bind
invariant-loop-bind l = AreBits (λ k. list_any (λ b. eqb k (shard b.channel)) (take l.bind-index l.binds)) l.bits
