use Rattle.std.proofs.Common.{ap, bit_or}
use Rattle.replay_rows.proofs.Shifting.{one-bit-more, one-shifted}
use Rattle.replay_rows.proofs.bits.with_bit.Goals as goal

pub returns : goal.returns
returns c = one-bit-more c.args.shards c.args.number c.requires _ (ap (λ n. bit_or c.args.shards n) (one-shifted c.args.number c.requires))
