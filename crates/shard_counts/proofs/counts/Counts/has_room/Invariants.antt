use Rattle.std.proofs.Common.{◌+◌, ◌^◌, ◌<◌, ℕ, get_or}
use Rattle.shard_counts.proofs.counts.Counts.has_room.Given as goal

abbrev pub invariant-loop-count : goal.invariant-loop-count
invariant-loop-count l = (s : ℕ) → s < l.count-index → get_or l.count-items s 0 + 1 < 2 ^ 64
