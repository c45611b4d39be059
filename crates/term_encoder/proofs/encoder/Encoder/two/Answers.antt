use Rattle.term_encoder.proofs.Writing.{wrote_both}
use Rattle.term_encoder.proofs.encoder.Encoder.two.Goals as goal

pub returns : goal.returns
returns c = wrote_both c.byte.ensures c.byte-2.ensures
