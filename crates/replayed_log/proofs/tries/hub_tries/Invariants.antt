use Rattle.std.proofs.Common.{◌≡◌}
use Rattle.replay_shards.specs.Ready.{index_tries}
use Rattle.replayed_log.specs.Making.{seen_tries}
use Rattle.replayed_log.proofs.tries.hub_tries.Given as goal

abbrev pub invariant-loop-tried : goal.invariant-loop-tried
invariant-loop-tried l = seen_tries l.own.items ≡ index_tries l.yielded
