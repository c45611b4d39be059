use Rattle.std.proofs.Common.{sym, ◌∙◌}
use Rattle.replay_shards.proofs.Trying.{some-use}
use Rattle.replay_shards.proofs.next.use_try.Goals as goal

pub returns-in-Some : goal.returns-in-Some
returns-in-Some c ss n e = some-use ss c.args.row.now n _ (sym e ∙ c.in-Some.is) c.first_channel.ensures
