use Rattle.term_order.proofs.examples.normal_examples.Goals as goal
use Rattle.term_order.proofs.ExamplesNormal.{normal_examples}

pub returns : goal.returns
returns c = record { examples = normal_examples }
