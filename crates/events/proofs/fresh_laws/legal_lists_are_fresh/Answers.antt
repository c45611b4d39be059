use Rattle.events.proofs.fresh_laws.legal_lists_are_fresh.Goals as goal
use Rattle.events.proofs.Concluding.{legal_lists_are_fresh}

pub returns : goal.returns
returns c = record { law = legal_lists_are_fresh }
