use Rattle.scope.proofs.examples.scope_examples.Goals as goal
use Rattle.scope.proofs.ExamplesScope.{scope_examples}

pub returns : goal.returns
returns c = record { examples = scope_examples }
