use Rattle.std.proofs.Common.{[], ◌∷◌, length, length-append, ap, sym, subst, arith}
use Rattle.rspace_table.specs.Hands.{AreEmpty}
use Rattle.rspace_table.proofs.Spread.{empty-more}
use Rattle.rspace_table.proofs.spreading.empty_shards.Goals as goal

pub loop-number-preserved : goal.loop-number-preserved
loop-number-preserved c =
    let p = c.in_ok-push.ensures.items in
    let items = c.loop-number.shards.items in
    (omega (arith, ap length p, length-append items (c.new.result ∷ []), c.loop-number.invariant.0), subst AreEmpty (sym p) (empty-more items c.new.result c.loop-number.invariant.1 c.new.ensures))
