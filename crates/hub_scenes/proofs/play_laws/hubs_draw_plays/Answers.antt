use Rattle.hub_scenes.proofs.play_laws.hubs_draw_plays.Goals as goal
use Rattle.hub_scenes.proofs.Ending.{hubs_draw_plays}

pub returns : goal.returns
returns c = record { law = hubs_draw_plays }
