use Rattle.events.proofs.event_laws.ids_are_offered_once.Goals as goal
use Rattle.events.proofs.Fresh.{ids_are_offered_once}

pub returns : goal.returns
returns c = record { law = ids_are_offered_once }
