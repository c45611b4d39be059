use Rattle.std.proofs.Common.{ℕ, arith, length, sym, subst, ap, ◌∙◌}
use Rattle.rspace_table.specs.Hands.{AreInPlace, IsInPlace, StandIn}
use Rattle.rspace_table.proofs.InHand.{all-places, one-more-place, place-item, right-so}
use Rattle.rspace_table.proofs.held.Held.is_in_place.Goals as goal

pub is_misplaced-requires : goal.is_misplaced-requires
is_misplaced-requires c = omega (arith, c.loop-shard.invariant.0, c.loop-shard-test.true, ap length c.deref-shard-items.ensures.value, c.self.invariant.0)

pub loop-shard-preserved : goal.loop-shard-preserved
loop-shard-preserved c =
    let items = c.deref-shard-items.result.now in
    let i = c.loop-shard.shard-index in
    let right = subst (λ (k : ℕ). IsInPlace k c.shard-item.result) c.loop-shard.invariant.0 (c.is_misplaced.ensures c.if-is_misplaced.false) in
    (omega (arith, c.loop-shard.invariant.0), one-more-place StandIn items i c.shard-item.result (place-item items i _ c.loop-shard-test.true ∙ sym c.shard-item.is) (right-so i c.shard-item.result right) c.loop-shard.invariant.1)

pub returns : goal.returns
returns c =
    let items = c.deref-shard-items.result.now in
    λ t. subst AreInPlace (c.deref-shard-items.ensures.value ∙ c.self.view_is) (all-places StandIn items c.loop-shard.shard-index c.loop-shard-test.false c.loop-shard.invariant.1)
