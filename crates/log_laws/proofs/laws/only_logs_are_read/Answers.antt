use Rattle.log_laws.proofs.Refused.{only_logs_are_read}
use Rattle.log_laws.proofs.laws.only_logs_are_read.Goals as goal

pub returns : goal.returns
returns c = record { law = only_logs_are_read }
