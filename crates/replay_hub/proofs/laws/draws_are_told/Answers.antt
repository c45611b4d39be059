use Rattle.replay_hub.proofs.laws.draws_are_told.Goals as goal
use Rattle.replay_hub.proofs.Drawing.{draws_are_told}

pub returns : goal.returns
returns g c = let t = g.J.ReplayTerms in record { law = draws_are_told t.deploy t.steps t.row_of t.channel_of t.part_of }
