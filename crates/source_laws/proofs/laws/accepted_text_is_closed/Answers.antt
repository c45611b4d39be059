use Rattle.source_laws.proofs.laws.accepted_text_is_closed.Goals as goal
use Rattle.source_laws.proofs.Spelling.{accepted_text_is_closed}

pub returns : goal.returns
returns c = record { law = accepted_text_is_closed }
