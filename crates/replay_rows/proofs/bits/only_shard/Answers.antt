use Rattle.std.proofs.Common.{◌∙◌, arith}
use Rattle.replay_rows.proofs.Shifting.{one-bit-only, one-shifted}
use Rattle.replay_rows.proofs.bits.only_shard.Goals as goal

pub returns-then-shards-number : goal.returns-then-shards-number
returns-then-shards-number c = (omega (arith, c.if-number-lt64.true), one-bit-only c.args.shards _ (omega (arith, c.if-number-lt64.true)) (c.if-shards-number.true ∙ one-shifted _ (omega (arith, c.if-number-lt64.true))))
