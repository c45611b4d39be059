use Rattle.std.proofs.Common.{ℕ, false, eqb, subst, ◌*◌, ◌^◌, ◌%◌}
use Rattle.calculus.specs.Storing.{shard}
use Rattle.rho_term.specs.declared.term.TermBind.{TermBind}
use Rattle.shard_counts.specs.Bits.{AreBits}
use Rattle.row_shards.proofs.SetBits.{more-bits, no-bits, shifted-bit}
use Rattle.row_shards.proofs.bits.bind_bits.Goals as goal

pub loop-bind-init : goal.loop-bind-init
loop-bind-init c = no-bits

pub loop-bind-preserved : goal.loop-bind-preserved
loop-bind-preserved c =
    more-bits (λ k. false) (λ (b : TermBind) (k : ℕ). eqb k (shard b.channel)) c.args.binds.now c.loop-bind.bind-index _ _ _ c.loop-bind-test.true c.loop-bind.invariant
    (subst (λ (b : TermBind). AreBits (λ k. eqb k (shard b.channel)) (1 * 2 ^ c.in_ok-bits.field-0 % 2 ^ 64)) c.bind-item.is (shifted-bit c.bind-item.result.channel c.in_ok-bits.field-0 c.in_ok-bits.ensures))
