use Rattle.source_laws.proofs.sources_are_numberable.Goals as goal
use Rattle.source_laws.proofs.NumberedSources.{sources_are_numberable}

pub returns : goal.returns
returns c = record { law = sources_are_numberable }
