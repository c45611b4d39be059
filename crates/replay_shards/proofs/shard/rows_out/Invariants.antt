use Rattle.std.proofs.Common.{◌≡◌}
use Rattle.hub_scenes.specs.Spaces.{bare}
use Rattle.replay_rows.specs.Rows.{filed_rows}
use Rattle.replay_shards.proofs.shard.rows_out.Given as goal

abbrev pub invariant-loop-list : goal.invariant-loop-list
invariant-loop-list l = l.rows.items ≡ bare (filed_rows l.yielded)
