use Rattle.log_laws.proofs.Stable.{cut_logs_are_short}
use Rattle.log_laws.proofs.laws.cut_logs_are_short.Goals as goal

pub returns : goal.returns
returns c = record { law = cut_logs_are_short }
