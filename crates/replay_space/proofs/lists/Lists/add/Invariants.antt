use Rattle.std.proofs.Common.{List, ℕ, [], take}
use Rattle.replay_space.specs.Rigs.{AreLists}
use Rattle.replay_space.proofs.lists.Lists.add.Given as goal

abbrev pub invariant-loop-value : goal.invariant-loop-value
invariant-loop-value l = (ls : List (List ℕ)) → AreLists ls [] l.fn.self → AreLists ls (take l.value-index l.list) l.self
