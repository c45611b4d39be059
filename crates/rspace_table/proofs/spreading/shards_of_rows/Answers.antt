use Rattle.rspace_table.proofs.Spread.{all-spread, none-spread}
use Rattle.rspace_table.proofs.spreading.shards_of_rows.Goals as goal

pub loop-row-init : goal.loop-row-init
loop-row-init c = (c.in_ok-shards.ensures.count, λ d. none-spread c.in_ok-shards.shards.items c.in_ok-shards.ensures.empty)

pub loop-row-preserved-in_ok-spread : goal.loop-row-preserved-in_ok-spread
loop-row-preserved-in_ok-spread c =
    let i = c.loop-row.invariant in
    (c.in_ok-spread.ensures.count, λ d. all-spread c.loop-row.yielded c.in-Some.row c.loop-row.shards.items c.spread.new.shards.items (c.in_ok-spread.ensures.count) i.0 i.1 c.in_ok-spread.ensures.made d)

pub loop-row-preserved : goal.loop-row-preserved
loop-row-preserved c =
    let i = c.loop-row.invariant in
    (c.in_ok-spread.ensures.count, λ d. all-spread c.loop-row.yielded c.in-Some.row c.loop-row.shards.items c.spread.new.shards.items (c.in_ok-spread.ensures.count) i.0 i.1 c.in_ok-spread.ensures.made d)
