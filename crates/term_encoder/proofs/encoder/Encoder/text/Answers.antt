use Rattle.std.proofs.Common.{rules}
use Rattle.term_encoder.proofs.Writing.{wrote}
use Rattle.term_encoder.proofs.encoder.Encoder.text.Goals as goal

pub returns : goal.returns
returns c = wrote c.counted.ensures (search rules)
