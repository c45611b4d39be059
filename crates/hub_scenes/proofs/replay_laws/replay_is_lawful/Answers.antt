use Rattle.hub_scenes.proofs.replay_laws.replay_is_lawful.Goals as goal
use Rattle.hub_scenes.proofs.Lawful.{lawful}

pub returns : goal.returns
returns c = record { law = lawful }
