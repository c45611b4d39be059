use Rattle.event_log.specs.View.{steps_of}
use Rattle.replays.specs.Replays.{deploy_under}
use Rattle.replay_runs.specs.Basis.{given_by}
use Rattle.replay_runs.proofs.runs.replay_steps.Given as goal

-- the deploy and the steps of the log
abbrev pub ghosts-race : goal.ghosts-race
ghosts-race g a = record { deploy = deploy_under a.log.header.limit (given_by a.basis.now); steps = steps_of a.log.steps.items }
