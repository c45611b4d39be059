use Rattle.events.proofs.entry_examples.first_path_examples.Goals as goal
use Rattle.events.proofs.FirstPath.{first_path_examples}

pub returns : goal.returns
returns c = record { examples = first_path_examples }
