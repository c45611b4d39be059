use Rattle.hub_scenes.proofs.replay_laws.hubs_decide_or_clash.Goals as goal
use Rattle.hub_scenes.proofs.Deciding.{hubs_decide_or_clash}

pub returns : goal.returns
returns c = record { law = hubs_decide_or_clash }
