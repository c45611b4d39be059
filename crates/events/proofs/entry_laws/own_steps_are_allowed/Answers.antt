use Rattle.events.proofs.entry_laws.own_steps_are_allowed.Goals as goal
use Rattle.events.proofs.Counted.{own_steps_are_allowed}

pub returns : goal.returns
returns c = record { law = own_steps_are_allowed }
