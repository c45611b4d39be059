use Rattle.std.proofs.Common.{List, sym, ap, subst, ◌∙◌}
use Rattle.std.specs.Prelude.{slice_range}
use Rattle.replay_slots.specs.Hands.{Slot, all_shown, parts_of, AreSlotsFiled}
use Rattle.replay_slots.proofs.Within.{range-filed, within-shown}
use Rattle.replay_shards.proofs.held.ReplayHeld.taken.Goals as goal

pub returns-in-Some-clause-filed : goal.returns-in-Some-clause-filed
returns-in-Some-clause-filed c =
    let s = c.self.inside in
    subst AreSlotsFiled (sym (c.in-Some.ensures.lookup.0.2 ∙ ap (λ (l : List Slot). slice_range l s.low s.high) c.deref.ensures.value)) (range-filed s.low s.high s.slots.items c.self.invariant.1)

pub returns-in-Some-clause-shown : goal.returns-in-Some-clause-shown
returns-in-Some-clause-shown c =
    let s = c.self.inside in
    ap (λ (l : List Slot). all_shown (parts_of l)) (c.in-Some.ensures.lookup.0.2 ∙ ap (λ (l : List Slot). slice_range l s.low s.high) c.deref.ensures.value) ∙ within-shown s.low s.high s.slots.items c.self.invariant.2
    ∙ ap all_shown c.self.view_is
