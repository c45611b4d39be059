use Rattle.std.proofs.Common.{◌≡◌, ◌<◌, ◌+◌, ◌++◌, ◌∷◌, [], List, ℕ, sym, ◌∙◌, ap, subst, arith, length, take}
use Rattle.std.proofs.lemmas.List.Elements.{All-get_or}
use Rattle.calculus.specs.Log.{Step}
use Rattle.event_log.specs.declared.log.LogStep.{LogStep}
use Rattle.event_log.specs.View.{step_of, steps_of, TakesInRange}
use Rattle.replay_space.specs.Rigs.{AreNamed}
use Rattle.replay_space.proofs.Filed.{mapped-more, many}
use Rattle.replay_space.proofs.naming.Namings.from_steps.Goals as goal

pub loop-i-preserved : goal.loop-i-preserved
loop-i-preserved c = record {
  named = subst (λ (us : List Step). AreNamed us [] c.add_step.new.self) (sym more) (c.in_ok-add_step.ensures.named (steps_of (take i items)) (many items i short) c.loop-i.invariant.named);
  few = omega (arith, c.in_ok-add_step.ensures.few, c.loop-i.invariant.few, taken.1);
}
  where
    items : List LogStep
    items = c.args.steps.now

    i : ℕ
    i = c.loop-i.i

    short : i < length items
    short = c.loop-i-test.true

    more : steps_of (take (i + 1) items) ≡ steps_of (take i items) ++ step_of c.index-steps-i.result ∷ []
    more = mapped-more step_of items i c.index-steps-i.result short ∙ ap (λ (s : LogStep). steps_of (take i items) ++ step_of s ∷ []) (sym c.index-steps-i.is)

    taken : TakesInRange c.index-steps-i.result
    taken = subst TakesInRange (sym c.index-steps-i.is) (All-get_or TakesInRange items i c.index-steps-i.result short c.requires.taken)
