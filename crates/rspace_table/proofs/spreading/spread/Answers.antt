use Rattle.std.proofs.Common.{◌<◌, ◌∙◌, List, [], subst, length, length-set, arith, refl}
use Rattle.calculus.specs.Rows.{Row}
use Rattle.shard_tables.specs.Hands.{GainsRow}
use Rattle.rspace_table.proofs.Spread.{at-default, spread-left, spread-made}
use Rattle.rspace_table.proofs.spreading.spread.Goals as goal

pub loop-number-preserved : goal.loop-number-preserved
loop-number-preserved c =
    let i = c.loop-number.invariant in
    let now = c.loop-number.shards.items in
    let n = c.loop-number.number in
    let y = c.gain.new.shard in
    let lt : n < length now = omega (arith, i.length, c.loop-number-test.true) in
    record {
      length = length-set now n y ∙ i.length;
      made = spread-made c.args.row.now c.args.shards.now.items now _ n y refl lt i.left (subst (λ (z : List Row). GainsRow c.args.row.now n z y) (c.index_mut.ensures.value ∙ at-default now n _ [] lt) c.in_ok-gain.ensures.made) i.made;
      left = spread-left c.args.row.now c.args.shards.now.items now _ n y refl lt i.left;
    }
