use Rattle.std.proofs.Common.{◌≡◌, drop}
use Rattle.calculus.specs.Steps.{differ}
use Rattle.replay_shards.specs.Taken.{bytes_of}
use Rattle.replay_shards.proofs.fit.are_different.Given as goal

abbrev pub invariant-loop-i : goal.invariant-loop-i
invariant-loop-i l = differ (bytes_of l.ids) ≡ differ (bytes_of (drop l.i l.ids))
