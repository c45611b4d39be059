use Rattle.hub_scenes.proofs.play_laws.play_is_lawful.Goals as goal
use Rattle.hub_scenes.proofs.PlayTelling.{play_is_lawful}

pub returns : goal.returns
returns c = record { law = play_is_lawful }
