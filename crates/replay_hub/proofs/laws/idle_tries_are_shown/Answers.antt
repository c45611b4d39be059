use Rattle.replay_hub.proofs.laws.idle_tries_are_shown.Goals as goal
use Rattle.replay_hub.proofs.Drawing.{idle_tries_are_shown}

pub returns : goal.returns
returns g c = let t = g.J.ReplayTerms in record { law = idle_tries_are_shown t.deploy t.steps t.row_of t.channel_of t.part_of }
