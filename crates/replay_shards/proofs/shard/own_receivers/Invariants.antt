use Rattle.std.proofs.Common.{◌≡◌, take, map as each}
use Rattle.std.specs.Prelude.{filter}
use Rattle.hub_scenes.specs.Spaces.{seen_in, standing_row}
use Rattle.replay_rows.specs.Rows.{seen_row}
use Rattle.replay_shards.proofs.shard.own_receivers.Given as goal

abbrev pub invariant-loop-row : goal.invariant-loop-row
invariant-loop-row l = each seen_row l.built.items ≡ filter (seen_in l.number) (each standing_row (take l.row-index l.row-items))
