use Rattle.events.proofs.fresh_laws.small_processes_are_numberable.Goals as goal
use Rattle.events.proofs.Numbering.{small_processes_are_numberable}

pub returns : goal.returns
returns c = record { law = small_processes_are_numberable }
