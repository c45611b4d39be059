use Rattle.std.proofs.Common.{◌≡◌, length}
use Rattle.replay_store.specs.Stores.{bare_shards}
use Rattle.row_shards.specs.Homes.{gathered}
use Rattle.replay_store.proofs.gathering.gather.Given as goal

abbrev pub invariant-loop-shard : goal.invariant-loop-shard
invariant-loop-shard l = (l.number ≡ length l.yielded) × (l.rows.items ≡ gathered 0 (bare_shards l.yielded))
