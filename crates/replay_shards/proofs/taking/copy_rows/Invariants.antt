use Rattle.std.proofs.Common.{take, List}
use Rattle.calculus.specs.Log.{Step}
use Rattle.replay_space.specs.Rigs.{IsRigOf}
use Rattle.replay_slots.specs.Hands.{all_shown, parts_of}
use Rattle.replay_shards.specs.Taken.{bytes_of, AreTaken}
use Rattle.replay_shards.proofs.taking.copy_rows.Given as goal

abbrev pub invariant-loop-id : goal.invariant-loop-id
invariant-loop-id l = (ss : List Step) → IsRigOf ss l.rig → AreTaken ss (all_shown (parts_of l.slots)) l.step (bytes_of (take l.id-index l.ids)) l.rows.items
