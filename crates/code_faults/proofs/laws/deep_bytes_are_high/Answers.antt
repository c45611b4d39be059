use Rattle.code_faults.proofs.Heights.{deep_bytes_are_high}
use Rattle.code_faults.proofs.laws.deep_bytes_are_high.Goals as goal

pub returns : goal.returns
returns c = record { law = deep_bytes_are_high }
