use Rattle.replay_space.proofs.Drafting.{named-more}
use Rattle.replay_space.proofs.naming.Namings.add.Goals as goal

pub returns-clause-named : goal.returns-clause-named
returns-clause-named c before ids place none h = named-more before ids _ c.args.self.now (record { all = c.push.new.self; ends = c.args.self.now.ends }) place none h c.in_ok-push.ensures.items
