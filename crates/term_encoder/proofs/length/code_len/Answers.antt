use Rattle.std.proofs.Common.{arith}
use Rattle.term_encoder.proofs.Lengths.{size-code}
use Rattle.term_encoder.proofs.length.code_len.Goals as goal

pub returns : goal.returns
returns c = omega (arith, size-code c.args.term.now)
