use Rattle.events.proofs.shard_laws.steps_in_hand_are_steps.Goals as goal
use Rattle.events.proofs.ShardHolding.{steps_in_hand_are_steps}

pub returns : goal.returns
returns c = record { law = steps_in_hand_are_steps }
