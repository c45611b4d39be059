-- Of what a log that is replayed is the log.
use Rattle.std.specs.Prelude.{◌≡◌, ◌≤◌, List}
use Rattle.calculus.specs.Limits.{most_limit}
use Rattle.calculus.specs.Log.{Step}
use Rattle.calculus.specs.Runs.{Deploy}
use Rattle.event_log.specs.View.{steps_of, IsWritable}
use Rattle.replay_space.specs.Rigs.{IsRigOf}
use Rattle.replayed_log.specs.declared.log_replay.LogReplay.{LogReplay}

-- a log of these steps and of this deploy: it has the deploy's prices and its limit, which is no greater than these prices let it be, and what is kept of the steps
pub record IsReplayOf {N U : Type 0} (deploy : Deploy) (ss : List Step) (r : LogReplay N U) : Type 0 where
  pub prices : deploy.prices ≡ r.prices
  pub limit : deploy.limit ≡ r.limit
  pub within : r.limit ≤ most_limit r.prices
  pub steps : ss ≡ steps_of r.log.steps.items
  pub writable : IsWritable r.log
  pub rigged : IsRigOf ss r.rig
