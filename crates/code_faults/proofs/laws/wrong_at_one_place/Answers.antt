use Rattle.code_faults.proofs.Refuting.{wrong_at_one_place}
use Rattle.code_faults.proofs.laws.wrong_at_one_place.Goals as goal

pub returns : goal.returns
returns c = record { law = wrong_at_one_place }
