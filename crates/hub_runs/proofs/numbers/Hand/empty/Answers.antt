use Rattle.hub_runs.proofs.Draws.{nones}
use Rattle.hub_runs.proofs.numbers.Hand.empty.Goals as goal

pub returns : goal.returns
returns c = nones 64
