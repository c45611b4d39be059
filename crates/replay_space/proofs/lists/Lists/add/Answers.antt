use Rattle.std.proofs.Common.{List, ℕ, subst}
use Rattle.std.proofs.lemmas.List.{take_all}
use Rattle.replay_space.specs.Rigs.{AreLists}
use Rattle.replay_space.proofs.lists.Lists.add.Goals as goal

pub returns : goal.returns
returns c ls h = c.end_list.ensures ls c.args.list.now (subst (λ (l : List ℕ). AreLists ls l c.loop-value.self) (take_all c.loop-value.value-index c.args.list.now c.loop-value-test.false) (c.loop-value.invariant ls h))
