use Rattle.code_faults.proofs.Refuting.{wrong_bytes_are_no_code}
use Rattle.code_faults.proofs.laws.wrong_bytes_are_no_code.Goals as goal

pub returns : goal.returns
returns c = record { law = wrong_bytes_are_no_code }
