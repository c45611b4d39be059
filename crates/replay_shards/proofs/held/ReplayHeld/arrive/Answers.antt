use Rattle.std.proofs.Common.{sym, subst, ◌∙◌, eq-eqb, refl}
use Rattle.std.specs.Prelude.{IsSome}
use Rattle.std.proofs.lemmas.Result.{on_ok_weaker}
use Rattle.hub_scenes.specs.Spaces.{new_row}
use Rattle.hub_scenes.specs.Entries.{arrives}
use Rattle.replay_rows.specs.Bits.{has_bit}
use Rattle.replay_slots.specs.Hands.{InHand, parts_of, shard_at, TouchedBecome}
use Rattle.replay_slots.proofs.Arriving.{one-arrived, is-there}
use Rattle.replay_slots.proofs.Placing.{part-at}
use Rattle.replay_slots.proofs.Within.{still-within}
use Rattle.replay_shards.proofs.held.ReplayHeld.arrive.Goals as goal

pub arrive_at-requires-clause-there : goal.arrive_at-requires-clause-there
arrive_at-requires-clause-there c =
    let n = c.in-Some.number in
    let slots = c.self.inside.slots.items in
    is-there _ (subst IsSome (part-at slots n) (subst (λ (h : InHand). IsSome (shard_at h n)) (sym c.self.view_is) (c.requires.held n (c.in-Some.ensures.1 n ∙ eq-eqb n n refl))))

pub invariant_of-self : goal.invariant_of-self
invariant_of-self c =
    let s = c.self.inside in
    (c.arrive_at.ensures.long, c.arrive_at.ensures.filed c.self.invariant.1, still-within s.low s.high c.in-Some.number s.slots.items c.arrive_at.new.slots.items c.self.invariant.2 (arrive_at-requires-clause-there c.before) c.arrive_at.ensures.others)

pub returns-in-Some-clause-arrived : goal.returns-in-Some-clause-arrived
returns-in-Some-clause-arrived c =
    let n = c.in-Some.number in
    let old = c.self.inside.slots.items in
    let new = c.arrive_at.new.slots.items in
    let here = is-there _ (subst IsSome (part-at old n) (subst (λ (h : InHand). IsSome (shard_at h n)) (sym c.self.view_is) (c.requires.held n (c.in-Some.ensures.1 n ∙ eq-eqb n n refl)))) in
    on_ok_weaker c.arrive_at.result
    (λ gains next. subst (λ (h : InHand). TouchedBecome (has_bit c.args.shards) (arrives (new_row c.args.from c.args.row) next) h (parts_of new)) c.self.view_is
    (one-arrived c.args.row c.args.from c.args.shards n c.in-Some.ensures.1 c.requires.shards next old new here gains c.arrive_at.ensures.others)) c.arrive_at.ensures.arrived
