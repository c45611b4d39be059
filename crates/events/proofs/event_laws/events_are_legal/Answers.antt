use Rattle.events.proofs.event_laws.events_are_legal.Goals as goal
use Rattle.events.proofs.Keeping.{events_are_legal}

pub returns : goal.returns
returns c = record { law = events_are_legal }
