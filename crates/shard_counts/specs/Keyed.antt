-- What is counted.
use Rattle.std.specs.Prelude.{ℕ, List}
use Rattle.shard_counts.specs.Counts.{count}
use Rattle.shard_counts.specs.declared.keyed.ShardCounts.{ShardCounts}

-- how many are counted for the shard s under the key k
abbrev pub count_of : ShardCounts → List ℕ → ℕ → ℕ
count_of c k s = count c.entries.entries k s
