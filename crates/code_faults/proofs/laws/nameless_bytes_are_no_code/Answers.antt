use Rattle.code_faults.proofs.Refuting.{nameless_bytes_are_no_code}
use Rattle.code_faults.proofs.laws.nameless_bytes_are_no_code.Goals as goal

pub returns : goal.returns
returns c = record { law = nameless_bytes_are_no_code }
