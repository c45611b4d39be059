use Rattle.std.proofs.Common.{◌≡◌, ◌+◌, List, length}
use Rattle.hub_scenes.specs.Spaces.{DidStep}
use Rattle.replay_outcome.specs.Settling.{KeptFrom}
use Rattle.replay_outcome.proofs.Summing.{Along}
use Rattle.replay_outcome.proofs.sum.sum_up.Given as goal

abbrev pub invariant-loop-place : goal.invariant-loop-place
invariant-loop-place l = record {
  many : l.index + length l.place-iterator.rest.items ≡ length l.fn.places.items;
  along : (ds : List DidStep) → KeptFrom 0 ds l.fn.places.items → Along l.fn.price l.fn.fault ds l.index l.place-iterator.rest.items l.sum;
}
