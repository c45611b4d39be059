use Rattle.term_encoder.proofs.Writing.{wrote_code}
use Rattle.term_encoder.proofs.encode.encode_part.Goals as goal

pub returns : goal.returns
returns c = wrote_code _ c.new-out.ensures c.put_part.ensures c.finish.ensures
