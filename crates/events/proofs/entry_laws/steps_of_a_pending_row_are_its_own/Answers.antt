use Rattle.events.proofs.entry_laws.steps_of_a_pending_row_are_its_own.Goals as goal
use Rattle.events.proofs.Counted.{steps_of_a_pending_row_are_its_own}

pub returns : goal.returns
returns c = record { law = steps_of_a_pending_row_are_its_own }
