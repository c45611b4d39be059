use Rattle.replays.proofs.run_laws.each_log_is_answered.Goals as goal
use Rattle.replays.proofs.Logs.{each_log_is_answered}

pub returns : goal.returns
returns c = record { law = each_log_is_answered }
