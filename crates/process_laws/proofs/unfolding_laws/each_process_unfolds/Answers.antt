use Rattle.process_laws.proofs.unfolding_laws.each_process_unfolds.Goals as goal
use Rattle.process_laws.proofs.Closed.{each_process_unfolds}

pub returns : goal.returns
returns c = record { law = each_process_unfolds }
