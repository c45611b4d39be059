use Rattle.events.proofs.entry_laws.one_more_is_allowed.Goals as goal
use Rattle.events.proofs.Growing.{one_more_is_allowed}

pub returns : goal.returns
returns c = record { law = one_more_is_allowed }
