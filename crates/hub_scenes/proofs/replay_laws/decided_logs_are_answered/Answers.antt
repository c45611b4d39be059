use Rattle.hub_scenes.proofs.replay_laws.decided_logs_are_answered.Goals as goal
use Rattle.hub_scenes.proofs.ReplayTelling.{decided_logs_are_answered}

pub returns : goal.returns
returns c = record { law = decided_logs_are_answered }
