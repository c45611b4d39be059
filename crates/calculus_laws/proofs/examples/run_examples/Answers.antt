use Rattle.calculus_laws.proofs.examples.run_examples.Goals as goal
use Rattle.calculus_laws.proofs.Runs.{run_examples}

pub returns : goal.returns
returns c = record { examples = run_examples }
