use Rattle.process_laws.proofs.congruent_laws.unfoldings_are_alike.Goals as goal
use Rattle.process_laws.proofs.Capping.{unfoldings_are_alike}

pub returns : goal.returns
returns c = record { law = unfoldings_are_alike }
