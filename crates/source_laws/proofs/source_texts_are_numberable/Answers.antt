use Rattle.source_laws.proofs.source_texts_are_numberable.Goals as goal
use Rattle.source_laws.proofs.NumberedSources.{source_texts_are_numberable}

pub returns : goal.returns
returns c = record { law = source_texts_are_numberable }
