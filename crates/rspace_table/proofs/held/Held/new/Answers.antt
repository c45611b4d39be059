use Rattle.std.proofs.Common.{[], ◌∷◌, length, length-append, ap, sym, subst, arith}
use Rattle.std.specs.Prelude.{None}
use Rattle.rspace_table.proofs.InHand.{AreAbsent, absent-at, absent-more}
use Rattle.rspace_table.proofs.held.Held.new.Goals as goal

pub loop-init : goal.loop-init
loop-init c = (ap length c.new-shards.ensures.items, subst AreAbsent (sym c.new-shards.ensures.items) tt)

pub loop-preserved : goal.loop-preserved
loop-preserved c =
    let p = c.in_ok-push.ensures.items in
    (omega (arith, ap length p, length-append c.loop.shards.items (None ∷ []), c.loop.invariant.0), subst AreAbsent (sym p) (absent-more c.loop.shards.items c.loop.invariant.1))

pub invariant_of-result : goal.invariant_of-result
invariant_of-result c = (omega (arith, c.loop.invariant.0, c.loop-test.false, c.loop.auto.counter-end), c.in_ok-built_ins.ensures)

pub returns : goal.returns
returns c k = absent-at c.loop.shards.items k c.loop.invariant.1
