use Rattle.replays.proofs.replay_laws.refused_logs_are_no_runs.Goals as goal
use Rattle.replays.proofs.Answering.{refused_logs_are_no_runs}

pub returns : goal.returns
returns c = record { law = refused_logs_are_no_runs }
