use Rattle.hub_scenes.proofs.examples.scene_examples.Goals as goal
use Rattle.hub_scenes.proofs.Computed.{scene_examples}

pub returns : goal.returns
returns c = record { examples = scene_examples }
