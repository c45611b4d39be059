use Rattle.code_faults.proofs.OneCause.{one_cause_at_one_place}
use Rattle.code_faults.proofs.laws.one_cause_at_one_place.Goals as goal

pub returns : goal.returns
returns c = record { law = one_cause_at_one_place }
