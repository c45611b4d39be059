use Rattle.events.proofs.event_laws.spent_ids_are_gone.Goals as goal
use Rattle.events.proofs.Spending.{spent_ids_are_gone}

pub returns : goal.returns
returns c = record { law = spent_ids_are_gone }
