use Rattle.events.proofs.event_laws.ids_are_spent_once.Goals as goal
use Rattle.events.proofs.Spending.{ids_are_spent_once}

pub returns : goal.returns
returns c = record { law = ids_are_spent_once }
