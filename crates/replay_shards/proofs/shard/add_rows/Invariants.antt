use Rattle.std.proofs.Common.{◌≡◌, ◌++◌, map as each}
use Rattle.hub_scenes.specs.Spaces.{bare}
use Rattle.replay_rows.specs.Rows.{seen_row}
use Rattle.replay_shards.proofs.shard.add_rows.Given as goal

abbrev pub invariant-loop-seen : goal.invariant-loop-seen
invariant-loop-seen l = l.rows.items ≡ l.initial.rows.items ++ bare (each seen_row l.yielded)
