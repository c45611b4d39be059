use Rattle.std.proofs.Common.{ℕ, List, ◌||◌, sym, ap, subst, ◌∙◌}
use Rattle.std.specs.Prelude.{Option}
use Rattle.std.specs.List.{list_any}
use Rattle.calculus.specs.Rows.{Row}
use Rattle.row_search.proofs.Looping.{take-whole}
use Rattle.events.specs.Shards.{stands_in}
use Rattle.shard_counts.specs.Bits.{AreBits, AreBitsBeside}
use Rattle.rspace_table.specs.Hands.{InHand, shown_at}
use Rattle.row_shards.proofs.SetBits.{beside-on, or-none, same-bits}
use Rattle.rspace_table.proofs.InHand.{shown-in-hand}
use Rattle.rspace_table.proofs.held.Held.shards_of.Goals as goal

pub loop-shard-init : goal.loop-shard-init
loop-shard-init c = same-bits _ _ _ (λ k. sym (or-none (stands_in k c.args.op.now))) c.in_ok-bits.ensures

pub loop-shard-preserved : goal.loop-shard-preserved
loop-shard-preserved c =
    beside-on (λ k. stands_in k c.args.op.now) (λ (x : Option (List Row)) (k : ℕ). shown_at x c.args.op.now k) c.deref-shard-items.result.now c.loop-shard.shard-index _ _ _ c.loop-shard-test.true c.loop-shard.invariant
    (subst (λ (x : Option (List Row)). AreBitsBeside (λ k. stands_in k c.args.op.now) (shown_at x c.args.op.now) c.in_ok-bits-2.field-0) c.shard-item.is c.in_ok-bits-2.ensures)

pub returns : goal.returns
returns c all are =
    let items = c.deref-shard-items.result.now in
    let o = c.args.op.now in
    same-bits _ _ _ (λ k. ap (λ (l : InHand). stands_in k o || list_any (λ x. shown_at x o k) l) (c.deref-shard-items.ensures.value ∙ c.self.view_is) ∙ shown-in-hand c.args.self.now all o are k)
    (subst (λ (l : InHand). AreBits (λ k. stands_in k o || list_any (λ x. shown_at x o k) l) c.loop-shard.bits) (take-whole items c.loop-shard.shard-index c.loop-shard-test.false) c.loop-shard.invariant)
