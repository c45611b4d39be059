use Rattle.event_log.proofs.Ranges.{read_logs_are_writable}
use Rattle.event_log.proofs.readable_laws.read_logs_are_writable.Goals as goal

pub returns : goal.returns
returns c = record { law = read_logs_are_writable }
