use Rattle.join_index.proofs.Sames.{lengths-tell}
use Rattle.join_index.proofs.index.same_group.Goals as goal

pub returns-else-a-b : goal.returns-else-a-b
returns-else-a-b c = lengths-tell c.args.a.now c.args.b.now c.if-a-b.false
