use Rattle.std.proofs.Common.{ℕ, eqb, ap, subst}
use Rattle.std.proofs.lemmas.Nat.Bits.{bit_at-zero}
use Rattle.calculus.specs.Storing.{shard}
use Rattle.rho_term.specs.declared.term.TermBind.{TermBind}
use Rattle.row_shards.proofs.SetBits.{beside-more}
use Rattle.shard_counts.specs.Bits.{AreBitsBeside}
use Rattle.row_table.specs.Shown.{heard_on}
use Rattle.rspace_table.proofs.bits.shown_on_any.Goals as goal

pub loop-bind-init : goal.loop-bind-init
loop-bind-init c = λ k lt own. ap (λ n. eqb n 1) (bit_at-zero k)

pub loop-bind-preserved : goal.loop-bind-preserved
loop-bind-preserved c =
    beside-more (λ (b : TermBind) (k : ℕ). eqb k (shard b.channel)) (λ (b : TermBind) (k : ℕ). heard_on c.args.table.now b.channel k) c.args.binds.now c.loop-bind.bind-index _ _ _ c.loop-bind-test.true c.loop-bind.invariant
    (subst (λ (b : TermBind). AreBitsBeside (λ k. eqb k (shard b.channel)) (heard_on c.args.table.now b.channel) c.in_ok-bits.field-0) c.bind-item.is c.in_ok-bits.ensures)
