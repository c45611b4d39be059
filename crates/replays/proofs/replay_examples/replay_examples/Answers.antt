use Rattle.replays.proofs.replay_examples.replay_examples.Goals as goal
use Rattle.replays.proofs.Computed.{replay_examples}

pub returns : goal.returns
returns c = record { examples = replay_examples }
