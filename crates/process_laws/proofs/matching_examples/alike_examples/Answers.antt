use Rattle.process_laws.proofs.matching_examples.alike_examples.Goals as goal
use Rattle.process_laws.proofs.ExamplesAlike.{alike_examples}

pub returns : goal.returns
returns c = record { examples = alike_examples }
