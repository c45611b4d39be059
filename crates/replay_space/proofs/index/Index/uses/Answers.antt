use Rattle.std.proofs.Common.{ap, ◌∙◌}
use Rattle.std.specs.Prelude.{Some, None}
use Rattle.replay_space.specs.Rigs.{list_of}
use Rattle.replay_space.proofs.Filed.{found-number}
use Rattle.replay_space.proofs.index.Index.uses.Goals as goal

pub returns-in-Some : goal.returns-in-Some
returns-in-Some c ss i =
    c.at.ensures i.lists i.filed ∙ ap (list_of i.lists) (found-number c.args.id.now.0 c.args.self.now.numbers.entries (Some c.in-Some.number.now) c.in-Some.ensures.value) ∙ i.uses c.args.id.now.0

pub returns-in-None : goal.returns-in-None
returns-in-None c ss i = ap (list_of i.lists) (found-number c.args.id.now.0 c.args.self.now.numbers.entries None c.in-None.ensures.value) ∙ i.uses c.args.id.now.0
