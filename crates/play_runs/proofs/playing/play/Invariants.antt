use Rattle.calculus.specs.Runs.{deploy_of}
use Rattle.play_runs.specs.Rooms.{work_in}
use Rattle.play_runs.proofs.playing.play.Given as goal

-- the deploy of the call, and what its source comes to
abbrev pub ghosts-play_source : goal.ghosts-play_source
ghosts-play_source g a = record {
  deploy = deploy_of a.means.prices.now a.means.limit a.base.items a.asked.now.term.now a.asked.now.source.now.0;
  source = work_in a.known.prices a.known.cap a.known.term.value a.known.seed a.known.room.0;
}
