use Rattle.state_reader.proofs.Faults.{one_fault}
use Rattle.state_reader.proofs.laws.one_fault.Goals as goal

pub returns : goal.returns
returns c = record { law = one_fault }
