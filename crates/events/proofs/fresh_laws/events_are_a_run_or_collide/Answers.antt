use Rattle.events.proofs.fresh_laws.events_are_a_run_or_collide.Goals as goal
use Rattle.events.proofs.Happening.{events_are_a_run_or_collide}

pub returns : goal.returns
returns c = record { law = events_are_a_run_or_collide }
