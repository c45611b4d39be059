use Rattle.std.proofs.lemmas.Result.{on_ok_weaker}
use Rattle.hub_scenes.specs.Spaces.{new_row}
use Rattle.hub_scenes.specs.Entries.{arrives}
use Rattle.replay_hub.specs.Values.{has_bit}
use Rattle.replayed_log.proofs.Becoming.{arrived}
use Rattle.replayed_log.proofs.tables.LogReplayReplayTables.arrive.Goals as goal

pub returns-clause-arrived : goal.returns-clause-arrived
returns-clause-arrived g c =
    let a = c.args.coming in
    on_ok_weaker c.arrive.result (λ b next. arrived (has_bit c.args.shards) (arrives (new_row a.from a.row) next) c.args.held.now c.arrive.new.self (b next)) c.arrive.ensures.arrived
