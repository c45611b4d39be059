use Rattle.events.proofs.fresh_laws.events_are_fresh.Goals as goal
use Rattle.events.proofs.Happening.{events_are_fresh}

pub returns : goal.returns
returns c = record { law = events_are_fresh }
