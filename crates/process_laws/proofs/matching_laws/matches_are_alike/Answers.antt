use Rattle.process_laws.proofs.matching_laws.matches_are_alike.Goals as goal
use Rattle.process_laws.proofs.Matched.{matches_are_alike}

pub returns : goal.returns
returns c = record { law = matches_are_alike }
