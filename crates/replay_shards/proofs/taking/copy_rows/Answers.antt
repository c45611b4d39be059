use Rattle.replay_slots.specs.Hands.{all_shown, parts_of}
use Rattle.replay_shards.proofs.Trying.{taken-next, not-taken}
use Rattle.replay_shards.proofs.taking.copy_rows.Goals as goal

pub returns-in-None : goal.returns-in-None
returns-in-None c ss rig = not-taken ss (all_shown (parts_of c.args.slots.now)) c.args.step c.args.ids.now c.loop-id.id-index _ c.in_ok-take_row.field-0 c.loop-id-test.true c.in-None.is (c.in_ok-take_row.ensures ss rig)

pub loop-id-preserved : goal.loop-id-preserved
loop-id-preserved c ss rig =
    taken-next ss (all_shown (parts_of c.args.slots.now)) c.args.step c.args.ids.now c.loop-id.id-index _ c.loop-id.rows.items c.push.new.self.items c.in-Some.row c.in_ok-take_row.field-0 c.loop-id-test.true (c.loop-id.invariant ss rig) c.in-Some.is
    (c.in_ok-take_row.ensures ss rig) c.in_ok-push-in-Some.ensures.items
