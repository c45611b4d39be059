use Rattle.replay_space.proofs.Computed.{rig_examples}
use Rattle.replay_space.proofs.examples.rig_examples.Goals as goal

pub returns : goal.returns
returns c = record { examples = rig_examples }
