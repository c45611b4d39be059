use Rattle.std.proofs.Common.{rules}
use Rattle.term_encoder.proofs.Writing.{wrote, wrote_both}
use Rattle.term_encoder.proofs.encoder.Encoder.counted.Goals as goal

pub returns : goal.returns
returns c = wrote (wrote_both c.number.ensures c.slice.ensures) (search rules)
