use Rattle.std.proofs.Common.{[], None, refl, sym, ap, subst, arith}
use Rattle.event_log.specs.declared.log.LogStep.{LogStep}
use Rattle.event_log.specs.View.{step_of}
use Rattle.events.specs.Entries.{Making}
use Rattle.hub_scenes.specs.Spaces.{IndexTry}
use Rattle.hub_scenes.specs.Entries.{does}
use Rattle.replay_shards.specs.Taken.{bytes_of}
use Rattle.replay_shards.proofs.Calling.{split-at, Split}
use Rattle.rig_tables.proofs.Staying.{after-step, at-some}
use Rattle.rig_tables.proofs.racing.try_step.Goals as goal

pub offers-requires : goal.offers-requires
offers-requires c =
    let u = c.index.result.now in
    let items = c.args.log.now.steps.items in
    let p : Split items c.args.step u = subst (λ (z : LogStep). Split items c.args.step z) (sym c.index.ensures) (split-at items c.args.step u (omega (arith, c.if-step-len.false, c.len.ensures))) in
    (at-some c.in_ok-ready.field-0 c.in-Some.ready _ _ c.in-Some.is (c.in_ok-ready.ensures p.before (step_of u) p.after p.is p.place)).found.closed

pub commit_done-requires-clause-low : goal.commit_done-requires-clause-low
commit_done-requires-clause-low c before s after log place =
    (at-some c.in_ok-ready.field-0 c.in-Some.ready _ _ c.in-Some.is (c.in_ok-ready.ensures before s after log place)).low

pub returns : goal.returns
returns c =
    let u = c.index.result.now in
    let items = c.args.log.now.steps.items in
    let p : Split items c.args.step u = subst (λ (z : LogStep). Split items c.args.step z) (sym c.index.ensures) (split-at items c.args.step u (omega (arith, c.if-step-len.false, c.len.ensures))) in
    let gone = bytes_of c.in-Some.ready.found.gone.items in
    let t : IndexTry = record { index = c.args.step; channel = c.in-Some.ready.found.body } in
    let a : Making = record { step = step_of u; gone = gone; offers = []; price = 0; fault = None; line = [] } in
    after-step (does t a []) c.args.held.now c.commit_done.new.self
    (c.commit_done.ensures p.before (step_of u) p.after p.is p.place t a [] refl (sym (ap bytes_of c.as_slice.ensures.value))) c.requires.all
