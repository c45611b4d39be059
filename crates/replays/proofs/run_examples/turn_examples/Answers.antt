use Rattle.replays.proofs.run_examples.turn_examples.Goals as goal
use Rattle.replays.proofs.ExamplesTurns.{turn_examples}

pub returns : goal.returns
returns c = record { examples = turn_examples }
