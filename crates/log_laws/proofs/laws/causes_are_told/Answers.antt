use Rattle.log_laws.proofs.Causes.{causes_are_told}
use Rattle.log_laws.proofs.laws.causes_are_told.Goals as goal

pub returns : goal.returns
returns c = record { law = causes_are_told }
