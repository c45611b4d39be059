use Rattle.std.proofs.Common.{◌∙◌, arith}
use Rattle.calculus.proofs.BytesLemmas.{to_be_bytes-be64}
use Rattle.checkpoint.proofs.page.eight_bytes.Goals as goal

pub returns : goal.returns
returns c = c.to_be_bytes.ensures ∙ to_be_bytes-be64 c.args.n (omega arith)
