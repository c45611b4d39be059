use Rattle.events.proofs.event_laws.ended_events_are_a_run.Goals as goal
use Rattle.events.proofs.EventEnding.{ended_events_are_a_run}

pub returns : goal.returns
returns c = record { law = ended_events_are_a_run }
