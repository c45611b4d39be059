use Rattle.replay_space.proofs.Placed.{uses_have_places}
use Rattle.replay_space.proofs.laws.uses_have_places.Goals as goal

pub returns : goal.returns
returns c = record { law = uses_have_places }
