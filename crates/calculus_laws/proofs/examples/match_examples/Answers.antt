use Rattle.calculus_laws.proofs.examples.match_examples.Goals as goal
use Rattle.calculus_laws.proofs.Matches.{match_examples}

pub returns : goal.returns
returns c = record { examples = match_examples }
