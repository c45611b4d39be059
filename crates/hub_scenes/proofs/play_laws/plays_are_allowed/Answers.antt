use Rattle.hub_scenes.proofs.play_laws.plays_are_allowed.Goals as goal
use Rattle.hub_scenes.proofs.Drawing.{plays_are_allowed}

pub returns : goal.returns
returns c = record { law = plays_are_allowed }
