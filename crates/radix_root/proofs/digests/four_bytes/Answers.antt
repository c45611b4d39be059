use Rattle.radix_root.proofs.digests.four_bytes.Goals as goal
use Rattle.calculus.specs.Bytes.{be32}

pub returns : goal.returns
unfolding be32
returns c = c.to_be_bytes.ensures
