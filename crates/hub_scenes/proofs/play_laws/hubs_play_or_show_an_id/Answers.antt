use Rattle.hub_scenes.proofs.play_laws.hubs_play_or_show_an_id.Goals as goal
use Rattle.hub_scenes.proofs.Ending.{hubs_play_or_show_an_id}

pub returns : goal.returns
returns c = record { law = hubs_play_or_show_an_id }
