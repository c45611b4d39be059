use Rattle.std.proofs.Common.{take, List, ◌∷◌}
use Rattle.calculus.specs.Log.{Step}
use Rattle.hub_scenes.specs.Spaces.{SeenRow}
use Rattle.replay_space.specs.Rigs.{IsRigOf}
use Rattle.replay_slots.specs.Hands.{all_shown, parts_of}
use Rattle.replay_shards.specs.Ready.{AreNext}
use Rattle.replay_shards.specs.Taken.{bytes_of, AreFound}
use Rattle.replay_shards.proofs.next.all_next.Given as goal

abbrev pub invariant-loop-id : goal.invariant-loop-id
invariant-loop-id l =
    (ss : List Step) (r : SeenRow) (ds : List SeenRow) → IsRigOf ss l.attempt.rig.now → AreFound (all_shown (parts_of l.attempt.slots.now)) (l.first.0 ∷ bytes_of l.others) (r ∷ ds) → AreNext ss (bytes_of l.gone) (r ∷ take l.id-index ds) l.next.items
