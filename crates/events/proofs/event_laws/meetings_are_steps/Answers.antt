use Rattle.events.proofs.event_laws.meetings_are_steps.Goals as goal
use Rattle.events.proofs.Making.{meetings_are_steps}

pub returns : goal.returns
returns c = record { law = meetings_are_steps }
