use Rattle.events.proofs.entry_laws.leaving_steps_are_first.Goals as goal
use Rattle.events.proofs.First.{leaving_steps_are_first}

pub returns : goal.returns
returns c = record { law = leaving_steps_are_first }
