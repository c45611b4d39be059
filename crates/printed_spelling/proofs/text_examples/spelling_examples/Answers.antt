use Rattle.printed_spelling.proofs.ExamplesSpelling.{spelling_examples}
use Rattle.printed_spelling.proofs.text_examples.spelling_examples.Goals as goal

pub returns : goal.returns
returns c = record { examples = spelling_examples }
