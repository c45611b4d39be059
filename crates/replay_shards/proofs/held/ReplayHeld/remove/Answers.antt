use Rattle.std.proofs.Common.{List, get_or, sym, ap, subst, ◌∙◌, arith}
use Rattle.std.specs.Prelude.{None, option_map, set}
use Rattle.replay_rows.specs.Rows.{part_of}
use Rattle.replay_slots.specs.Hands.{InHand, Slot, IsSlotFiled, shard_at}
use Rattle.replay_slots.proofs.Stepping.{one-length}
use Rattle.replay_slots.proofs.Placing.{filed-set, set-here, set-others, there-filed}
use Rattle.replay_slots.proofs.Within.{risen, set-free}
use Rattle.replay_shards.proofs.held.ReplayHeld.remove.Goals as goal

pub invariant_of-result : goal.invariant_of-result
invariant_of-result c =
    let slots = c.self.inside.slots.items in
    subst IsSlotFiled (sym c.take-slot.ensures.value ∙ c.in-Some.is) (there-filed slots c.args.number c.index_mut.result.now (omega (arith, c.requires, c.self.invariant.0)) c.index_mut.ensures.value c.self.invariant.1)

pub invariant_of-self : goal.invariant_of-self
invariant_of-self c =
    let slots = c.self.inside.slots.items in
    let w = c.take-slot.new.self in
    let s = c.self.inside in
    let free = set-free s.low s.high c.args.number slots w (omega (arith, c.requires, c.self.invariant.0)) c.take-slot.ensures.after c.self.invariant.2 in (
      one-length slots c.args.number w ∙ c.self.invariant.0,
      filed-set slots c.args.number w (subst IsSlotFiled (sym c.take-slot.ensures.after) tt) c.self.invariant.1,
      risen s.low s.high c.first_from-self-inside.result (set slots c.args.number w) free (λ k a b d. ap (λ (l : List Slot). get_or l k None) (sym c.as_slice.ensures.value) ∙ c.first_from-self-inside.ensures k a b d),
    )

pub returns-clause-here : goal.returns-clause-here
returns-clause-here c =
    let slots = c.self.inside.slots.items in
    set-here slots c.args.number c.take-slot.new.self (omega (arith, c.requires, c.self.invariant.0)) ∙ ap (option_map part_of) c.take-slot.ensures.after

pub returns-clause-others : goal.returns-clause-others
returns-clause-others c k d = set-others c.self.inside.slots.items c.args.number k c.take-slot.new.self d ∙ ap (λ (h : InHand). shard_at h k) c.self.view_is
