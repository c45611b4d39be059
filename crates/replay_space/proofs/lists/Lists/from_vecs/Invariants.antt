use Rattle.std.proofs.Common.{[]}
use Rattle.replay_space.specs.Rigs.{items_of, AreLists}
use Rattle.replay_space.proofs.lists.Lists.from_vecs.Given as goal

abbrev pub invariant-loop-list : goal.invariant-loop-list
invariant-loop-list l = AreLists (items_of l.yielded) [] l.lists
