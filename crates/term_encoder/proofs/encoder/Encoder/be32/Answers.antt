use Rattle.std.proofs.Common.{rules}
use Rattle.calculus.specs.Bytes.{be32}
use Rattle.term_encoder.proofs.Writing.{wrote}
use Rattle.term_encoder.proofs.encoder.Encoder.be32.Goals as goal

pub returns : goal.returns
unfolding be32
returns c = wrote c.slice.ensures (search rules)
