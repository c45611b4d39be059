use Rattle.events.proofs.entry_laws.steps_are_few.Goals as goal
use Rattle.events.proofs.Counting.{steps_are_few}

pub returns : goal.returns
returns c = record { law = steps_are_few }
