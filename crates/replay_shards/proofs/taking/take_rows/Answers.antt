use Rattle.replay_slots.specs.Hands.{all_shown, parts_of}
use Rattle.replay_shards.proofs.Trying.{taken-alone}
use Rattle.replay_shards.proofs.taking.take_rows.Goals as goal

pub returns-in-Some : goal.returns-in-Some
returns-in-Some c ss rig = taken-alone ss (all_shown (parts_of c.args.slots.now)) c.args.step c.args.ids.now c.in-Some.id.now c.take_one.result c.in-Some.ensures (c.take_one.ensures ss rig)
