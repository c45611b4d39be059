use Rattle.calculus_laws.proofs.examples.printed_examples.Goals as goal
use Rattle.calculus_laws.proofs.Printed.{printed_examples}

pub returns : goal.returns
returns c = record { examples = printed_examples }
