use Rattle.std.proofs.Common.{◌≡◌, ◌<◌, length, get_or, sym, ap, subst, ◌∙◌, arith, map as each}
use Rattle.std.specs.Prelude.{None, Option, option_map}
use Rattle.calculus.specs.declared.ids.Digest.{Digest}
use Rattle.event_log.specs.View.{step_of}
use Rattle.hub_scenes.specs.Spaces.{Part, IsIn}
use Rattle.hub_scenes.proofs.Basics.{has, hold}
use Rattle.replay_rows.specs.Rows.{part_of, settled_part}
use Rattle.replay_slots.specs.Hands.{IsSlotFiled, parts_of, all_shown, shown_at}
use Rattle.replay_rows.proofs.Settling.{same-at}
use Rattle.replay_slots.proofs.Placing.{filed-at, part-at, shown-in, mapped-parts, all-settled-filed}
use Rattle.replay_slots.proofs.slots.settle_all.Goals as goal

pub settle_at-requires-clause-filed : goal.settle_at-requires-clause-filed
settle_at-requires-clause-filed c =
    let old = c.args.slots.now.items in
    let new = c.loop-k.slots.items in
    let h : c.loop-k.k < length new = omega (arith, c.loop-k-test.true, c.requires.long, c.loop-k.invariant.long) in
    let at : c.index_mut.result.now ≡ get_or old c.loop-k.k None = c.index_mut.ensures.value ∙ same-at new c.loop-k.k c.index_mut.result.now None h ∙ c.loop-k.invariant.rest c.loop-k.k (omega arith) in
    subst IsSlotFiled (sym at) (filed-at old c.loop-k.k c.requires.filed)

pub settle_at-requires-clause-low : goal.settle_at-requires-clause-low
settle_at-requires-clause-low c q m =
    let old = c.args.slots.now.items in
    let new = c.loop-k.slots.items in
    let h : c.loop-k.k < length new = omega (arith, c.loop-k-test.true, c.requires.long, c.loop-k.invariant.long) in
    let at : c.index_mut.result.now ≡ get_or old c.loop-k.k None = c.index_mut.ensures.value ∙ same-at new c.loop-k.k c.index_mut.result.now None h ∙ c.loop-k.invariant.rest c.loop-k.k (omega arith) in
    let there = subst (λ (x : Option Part). IsIn q (shown_at x)) (ap (option_map part_of) at ∙ sym (part-at old c.loop-k.k)) m in
    c.requires.low q (hold q (all_shown (parts_of old)) (shown-in (parts_of old) c.loop-k.k q (has q _ there)))

pub returns-clause-filed : goal.returns-clause-filed
returns-clause-filed c =
    all-settled-filed c.args.slots.now.items c.loop-k.slots.items c.loop-k.invariant.long (λ k lt. (c.loop-k.invariant.changed k (omega (arith, lt, c.requires.long, c.loop-k-test.false)) lt).1)

pub returns-clause-parts : goal.returns-clause-parts
returns-clause-parts c =
    mapped-parts (settled_part (step_of c.args.step.now) (each (λ (d : Digest). d.0) c.args.gone.now)) c.args.slots.now.items c.loop-k.slots.items c.loop-k.invariant.long
    (λ k lt. (c.loop-k.invariant.changed k (omega (arith, lt, c.requires.long, c.loop-k-test.false)) lt).0)
