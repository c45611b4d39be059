use Rattle.made_input.proofs.examples.made_examples.Goals as goal
use Rattle.made_input.proofs.Computed.{made_examples}

pub returns : goal.returns
returns c = record { examples = made_examples }
