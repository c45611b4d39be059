use Rattle.process_laws.proofs.storable_examples.storing_examples.Goals as goal
use Rattle.process_laws.proofs.Storing.{storing_examples}

pub returns : goal.returns
returns c = record { examples = storing_examples }
