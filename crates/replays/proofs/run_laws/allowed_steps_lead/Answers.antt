use Rattle.replays.proofs.run_laws.allowed_steps_lead.Goals as goal
use Rattle.replays.proofs.Leading.{allowed_steps_lead}

pub returns : goal.returns
returns c = record { law = allowed_steps_lead }
