use Rattle.std.proofs.Common.{length, ap, ◌∙◌, arith, get_or, List}
use Rattle.std.specs.Prelude.{None, option_map}
use Rattle.replay_rows.specs.Rows.{part_of}
use Rattle.replay_slots.specs.Hands.{Slot}
use Rattle.replay_slots.proofs.Placing.{length-one-more, none-there, none-pushed, part-at}
use Rattle.replay_shards.proofs.held.ReplayHeld.new.Goals as goal

pub loop-init : goal.loop-init
loop-init c = (ap length c.new-slots.ensures.items, λ k. ap (λ (l : List Slot). get_or l k None) c.new-slots.ensures.items)

pub loop-preserved : goal.loop-preserved
loop-preserved c =
    let p = c.in_ok-push.ensures.items in
    (omega (arith, ap length p, length-one-more c.loop.slots.items None, c.loop.invariant.0), λ k. ap (λ (l : List Slot). get_or l k None) p ∙ none-pushed c.loop.slots.items c.loop.invariant.1 k)

pub invariant_of-result : goal.invariant_of-result
invariant_of-result c = (omega (arith, c.loop.invariant.0, c.loop-test.false, c.loop.auto.counter-end), none-there c.loop.slots.items c.loop.invariant.1, λ k out. part-at c.loop.slots.items k ∙ ap (option_map part_of) (c.loop.invariant.1 k))

pub returns : goal.returns
returns c k = part-at c.loop.slots.items k ∙ ap (option_map part_of) (c.loop.invariant.1 k)
