use Rattle.std.proofs.Common.{◌∷◌, [], List, refl, subst, map as each, arith}
use Rattle.std.proofs.lemmas.List.{take_all}
use Rattle.calculus.specs.declared.ids.Digest.{Digest}
use Rattle.event_log.specs.View.{step_of}
use Rattle.replay_space.specs.declared.naming.Namings.{Namings}
use Rattle.replay_space.specs.Rigs.{AreNamed}
use Rattle.replay_space.proofs.Drafting.{step-named}
use Rattle.replay_space.proofs.naming.Namings.add_step.Goals as goal

pub loop-place-init : goal.loop-place-init
loop-place-init c = record {
  named = λ before place h. c.in_ok-add.ensures.named before [] place refl h;
  few = omega (arith, c.in_ok-add.ensures.few);
}

pub returns-clause-named : goal.returns-clause-named
returns-clause-named c before place h =
    let items = c.args.step.now.taken.items in
    let first = c.args.step.now.cont.0 in
    let whole = subst (λ (l : List Digest). AreNamed before (first ∷ each (λ (z : Digest). z.0) l) c.loop-place.self) (take_all c.loop-place.place items (omega (arith, c.loop-place-test.false, c.len-place-end.ensures, c.args.step.now.taken.ok.0))) (c.loop-place.invariant.named before place h) in
    let ended : Namings = record { all = c.loop-place.self.all; ends = c.push.new.self } in
    step-named before (step_of c.args.step.now) c.loop-place.self ended whole refl
