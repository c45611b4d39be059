use Rattle.term_encoder.proofs.Writing.{wrote_code}
use Rattle.term_encoder.proofs.ops.encode_op.Goals as goal

pub returns : goal.returns
returns c = wrote_code _ c.new-out.ensures c.put_op.ensures c.finish.ensures
