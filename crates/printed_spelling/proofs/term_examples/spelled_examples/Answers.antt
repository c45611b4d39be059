use Rattle.printed_spelling.proofs.term_examples.spelled_examples.Goals as goal
use Rattle.printed_spelling.proofs.ExamplesSpelled.{spelled_examples}

pub returns : goal.returns
returns c = record { examples = spelled_examples }
