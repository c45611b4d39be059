use Rattle.std.proofs.Common.{◌≡◌, ◌+◌, ◌<◌, ℕ, take, Vec, Global}
use Rattle.shard_counts.specs.Counts.{added}
use Rattle.shard_counts.specs.Keyed.{count_of}
use Rattle.shard_counts.proofs.keyed.ShardCounts.add.Given as goal

abbrev pub invariant-loop-i : goal.invariant-loop-i
invariant-loop-i l = (k : Vec ℕ Global) (s : ℕ) → s < 64 → count_of l.self k.items s ≡ count_of l.initial.self k.items s + added (take l.i l.keys) l.bits k.items s
