use Rattle.recorded_runs.proofs.Kept.{kept_logs_are_answered}
use Rattle.recorded_runs.proofs.laws.kept_logs_are_answered.Goals as goal

pub returns : goal.returns
returns c = record { law = kept_logs_are_answered }
