use Rattle.events.proofs.entry_laws.entries_tell_their_steps.Goals as goal
use Rattle.events.proofs.Growing.{entries_tell_their_steps}

pub returns : goal.returns
returns c = record { law = entries_tell_their_steps }
