use Rattle.events.proofs.event_laws.lonely_operations_are_stored.Goals as goal
use Rattle.events.proofs.Making.{lonely_operations_are_stored}

pub returns : goal.returns
returns c = record { law = lonely_operations_are_stored }
