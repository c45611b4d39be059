use Rattle.next_states.proofs.Gathering.{none-there}
use Rattle.next_states.proofs.changed.Changed.new.Goals as goal

pub returns-clause-none : goal.returns-clause-none
returns-clause-none c = none-there c.new.result c.new.ensures.empty
