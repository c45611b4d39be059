use Rattle.least_step.proofs.laws.legal_lists_use_nothing_up.Goals as goal
use Rattle.least_step.proofs.Past.{legal_lists_use_nothing_up}

pub returns : goal.returns
returns c = record { law = legal_lists_use_nothing_up }
