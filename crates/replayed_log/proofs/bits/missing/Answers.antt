use Rattle.replayed_log.proofs.SetBits.{missing-bits}
use Rattle.replayed_log.proofs.bits.missing.Goals as goal

pub returns : goal.returns
returns c k = missing-bits c.args.wanted c.args.shards c.ranges.shards.fits k
