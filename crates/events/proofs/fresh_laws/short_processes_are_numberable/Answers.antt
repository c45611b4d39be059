use Rattle.events.proofs.fresh_laws.short_processes_are_numberable.Goals as goal
use Rattle.events.proofs.Numbering.{short_processes_are_numberable}

pub returns : goal.returns
returns c = record { law = short_processes_are_numberable }
