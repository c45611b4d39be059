use Rattle.std.proofs.Common.{◌≡◌, sym, ap, subst, ◌∙◌, map as each}
use Rattle.std.specs.Prelude.{option_map}
use Rattle.calculus.specs.Log.{Step}
use Rattle.event_log.specs.declared.log.LogStep.{LogStep}
use Rattle.event_log.specs.View.{step_of}
use Rattle.hub_scenes.specs.Spaces.{IsIn}
use Rattle.replay_slots.specs.Hands.{InHand, all_shown, parts_of, shard_at}
use Rattle.replay_rows.specs.Rows.{settled_part}
use Rattle.replay_shards.specs.Taken.{bytes_of}
use Rattle.replay_shards.proofs.Calling.{Split, its-step, split-at, all-become}
use Rattle.replay_slots.proofs.Placing.{mapped-at}
use Rattle.replay_shards.proofs.held.ReplayHeld.commit_done.Goals as goal

pub invariant_of-self : goal.invariant_of-self
invariant_of-self c =
    let gone = bytes_of c.args.gone.now in
    let f = settled_part (step_of c.index.result.now) gone in (
      c.settle_all.ensures.long,
      c.settle_all.ensures.filed,
      λ k out. ap (λ (h : InHand). shard_at h k) c.settle_all.ensures.parts ∙ mapped-at f (parts_of c.self.inside.slots.items) k ∙ ap (option_map f) (c.self.invariant.2 k out),
    )

pub settle_all-requires-clause-low : goal.settle_all-requires-clause-low
settle_all-requires-clause-low c q m named =
    let items = c.args.log.now.steps.items in
    let at : Split items c.args.step c.index.result.now = subst (λ (u : LogStep). Split items c.args.step u) (sym c.index.ensures) (split-at items c.args.step c.index.result.now c.requires.step) in
    c.requires.low at.before (step_of c.index.result.now) at.after at.is at.place q (subst (λ (h : InHand). IsIn q (all_shown h)) c.self.view_is m) named

pub returns : goal.returns
returns c before s after log place t a next e g =
    let gone = bytes_of c.args.gone.now in
    let u : step_of c.index.result.now ≡ s = ap step_of c.index.ensures ∙ its-step c.args.log.now.steps.items before s after c.args.step _ log place in
    all-become t a next s gone c.args.self.now (parts_of c.settle_all.new.slots.items) e g
    (c.settle_all.ensures.parts ∙ ap (λ (z : Step). each (option_map (settled_part z gone)) (parts_of c.self.inside.slots.items)) u ∙ ap (λ (h : InHand). each (option_map (settled_part s gone)) h) c.self.view_is)
