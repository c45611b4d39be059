use Rattle.events.proofs.event_laws.taken_rows_are_spent.Goals as goal
use Rattle.events.proofs.Taking.{taken_rows_are_spent}

pub returns : goal.returns
returns c = record { law = taken_rows_are_spent }
