use Rattle.std.proofs.Common.{◌∙◌, arith}
use Rattle.calculus.proofs.BytesLemmas.{to_be_bytes-be32}
use Rattle.event_log.proofs.write.four_bytes.Goals as goal

pub returns : goal.returns
returns c = c.to_be_bytes.ensures ∙ to_be_bytes-be32 c.args.n (omega arith)
