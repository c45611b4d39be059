use Rattle.std.proofs.Common.{sym, ap, ◌∙◌}
use Rattle.replay_space.specs.Rigs.{list_of}
use Rattle.replay_space.proofs.index.Index.uses_near.Goals as goal

pub returns-in-Some : goal.returns-in-Some
returns-in-Some c ss i = c.at.ensures i.lists i.filed ∙ ap (list_of i.lists) (sym ((i.numbered c.args.id.now.0 c.in-Some.number).1 c.in-Some.ensures)) ∙ i.uses c.args.id.now.0
