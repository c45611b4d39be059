use Rattle.std.proofs.Common.{◌≡◌, ◌<◌, ◌-◌, ◌^◌, ◌∷◌, ◌++◌, length, List, sym, ap, subst, ◌∙◌, arith}
use Rattle.std.specs.Prelude.{IfOk, MatchOption}
use Rattle.calculus.specs.Log.{Step}
use Rattle.event_log.specs.View.{step_of, steps_of}
use Rattle.replay_space.specs.Rigs.{IsRigOf}
use Rattle.hub_scenes.specs.Spaces.{SeenRow}
use Rattle.replay_slots.specs.Hands.{all_shown, parts_of}
use Rattle.replay_shards.specs.Ready.{IsReady}
use Rattle.replay_shards.specs.Taken.{FitsNothing}
use Rattle.replay_shards.proofs.Calling.{its-step, as-many-steps}
use Rattle.replay_shards.proofs.held.ReplayHeld.possible.Goals as goal

pub returns : goal.returns
returns c before s after log place =
    let items = c.args.log.now.steps.items in
    let e : step_of c.index.result.now ≡ s = ap step_of c.index.ensures ∙ its-step items before s after c.args.step _ log place in
    let shown : all_shown (parts_of c.taken.result.now) ≡ all_shown c.args.self.now = c.taken.ensures.shown in
    let rig = subst (λ (l : List Step). IsRigOf l c.args.rig.now) log c.requires.rig in
    let small : length (before ++ s ∷ after) < 2 ^ 32 - 1 = omega (arith, ap (λ (l : List Step). length l) log, as-many-steps items, c.requires.writable.steps) in
    subst (λ (l : List Step). IfOk c.fit.result (λ o. MatchOption o (FitsNothing l (all_shown c.args.self.now) before s c.args.step) (IsReady l (all_shown c.args.self.now) before s c.args.step))) (sym log)
    (subst (λ (z : List SeenRow). IfOk c.fit.result (λ o. MatchOption o (FitsNothing (before ++ s ∷ after) z before s c.args.step) (IsReady (before ++ s ∷ after) z before s c.args.step))) shown
    (c.fit.ensures before s after rig (sym log ∙ ap steps_of (sym c.as_slice.ensures.value)) small place (sym e)))
