use Rattle.process_laws.proofs.matching_laws.binds_match_alike.Goals as goal
use Rattle.process_laws.proofs.Matched.{binds_match_alike}

pub returns : goal.returns
returns c = record { law = binds_match_alike }
