use Rattle.replays.proofs.run_laws.legal_lists_lead.Goals as goal
use Rattle.replays.proofs.Lists.{legal_lists_lead}

pub returns : goal.returns
returns c = record { law = legal_lists_lead }
