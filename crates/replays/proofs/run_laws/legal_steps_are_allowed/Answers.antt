use Rattle.replays.proofs.run_laws.legal_steps_are_allowed.Goals as goal
use Rattle.replays.proofs.Lists.{legal_steps_are_allowed}

pub returns : goal.returns
returns c = record { law = legal_steps_are_allowed }
