use Rattle.std.proofs.Common.{rules}
use Rattle.calculus.specs.Bytes.{be64}
use Rattle.term_encoder.proofs.Writing.{wrote, wrote_both}
use Rattle.term_encoder.proofs.encoder.Encoder.int.Goals as goal

pub returns : goal.returns
unfolding be64
returns c = wrote (wrote_both c.byte.ensures c.slice.ensures) (search rules)
