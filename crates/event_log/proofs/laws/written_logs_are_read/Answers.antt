use Rattle.event_log.proofs.laws.written_logs_are_read.Goals as goal
use Rattle.event_log.proofs.Written.{written_logs_are_read}

pub returns : goal.returns
returns c = record { law = written_logs_are_read }
