use Rattle.replay_hub.proofs.laws.draws_carry.Goals as goal
use Rattle.replay_hub.proofs.Drawing.{draws_carry}

pub returns : goal.returns
returns g c = let t = g.J.ReplayTerms in record { law = draws_carry t.deploy t.steps t.row_of t.channel_of t.part_of }
