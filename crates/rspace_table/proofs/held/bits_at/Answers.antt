use Rattle.std.proofs.Common.{List, subst, sym, ap, eqb}
use Rattle.std.specs.Prelude.{Option, IfOk}
use Rattle.std.proofs.lemmas.Nat.Bits.{bit_at-zero}
use Rattle.calculus.specs.Rows.{Row}
use Rattle.shard_counts.specs.Bits.{AreBitsBeside}
use Rattle.events.specs.Shards.{stands_in}
use Rattle.rspace_table.specs.Shown.{shown_by}
use Rattle.rspace_table.specs.Hands.{shown_at}
use Rattle.rspace_table.proofs.held.bits_at.Goals as goal

pub returns-in-Some : goal.returns-in-Some
returns-in-Some c =
    subst (λ (s : Option (List Row)). IfOk c.shown_bits.result (AreBitsBeside (λ k. stands_in k c.args.op.now) (shown_at s c.args.op.now))) (sym c.in-Some.is)
    (subst (λ (rows : List Row). IfOk c.shown_bits.result (AreBitsBeside (λ k. stands_in k c.args.op.now) (shown_by rows c.args.op.now))) c.table.ensures c.shown_bits.ensures)

pub returns-in-None : goal.returns-in-None
returns-in-None c =
    subst (λ (s : Option (List Row)). AreBitsBeside (λ k. stands_in k c.args.op.now) (shown_at s c.args.op.now) 0) (sym c.in-None.is) (λ k lt own. ap (λ n. eqb n 1) (bit_at-zero k))
