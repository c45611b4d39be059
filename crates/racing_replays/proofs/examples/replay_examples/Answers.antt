use Rattle.racing_replays.proofs.examples.replay_examples.Goals as goal
use Rattle.racing_replays.proofs.Computed.{replay_examples}

pub returns : goal.returns
returns c = record { examples = replay_examples }
