use Rattle.hub_scenes.specs.Spaces.{new_row}
use Rattle.hub_scenes.specs.Entries.{arrives}
use Rattle.replay_rows.specs.Bits.{has_bit}
use Rattle.std.proofs.Common.{[]}
use Rattle.rig_tables.proofs.Staying.{after-arrival}
use Rattle.rig_tables.proofs.racing.bring_one.Goals as goal

pub returns : goal.returns
returns c =
    let a = c.swap_remove-coming.result in
    after-arrival (has_bit c.shards-shards.result) (arrives (new_row a.from c.in_ok-row.row) []) c.args.held.now c.arrive.new.self (c.in_ok-arrive.ensures.arrived []) c.requires
