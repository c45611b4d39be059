use Rattle.events.proofs.fresh_laws.events_are_fresh_or_show_an_id.Goals as goal
use Rattle.events.proofs.Happening.{events_are_fresh_or_show_an_id}

pub returns : goal.returns
returns c = record { law = events_are_fresh_or_show_an_id }
