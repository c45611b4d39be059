use Rattle.term_encoder.proofs.Writing.{wrote_both}
use Rattle.term_encoder.proofs.encoder.Encoder.number.Goals as goal

pub returns : goal.returns
returns c = wrote_both c.byte.ensures c.be32.ensures
