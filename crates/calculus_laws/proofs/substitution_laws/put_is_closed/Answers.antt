use Rattle.calculus_laws.proofs.substitution_laws.put_is_closed.Goals as goal
use Rattle.calculus.proofs.Closing.{put_is_closed}

pub returns : goal.returns
returns c = record { law = put_is_closed }
