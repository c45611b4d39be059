use Rattle.std.proofs.Common.{◌≡◌, ◌<◌, ◌+◌, ◌++◌, ◌∷◌, List, ℕ, suc, sym, ◌∙◌, [], ap, subst, arith, length, take, drop, get_or}
use Rattle.std.specs.Prelude.{count_by}
use Rattle.calculus.specs.Log.{Step}
use Rattle.calculus.specs.Steps.{same_meeting}
use Rattle.event_log.specs.declared.log.LogStep.{LogStep}
use Rattle.event_log.specs.View.{step_of, steps_of}
use Rattle.replay_space.specs.Rigs.{AreCounts, repeats_after}
use Rattle.replay_space.proofs.Filed.{repeats-more, mapped-more, many}
use Rattle.replay_space.proofs.Lone.{cut-at}
use Rattle.replay_space.proofs.rig.repeats_of.Goals as goal

pub loop-i-preserved : goal.loop-i-preserved
loop-i-preserved c index = record {
  counts = subst (λ (us : List Step). AreCounts (steps_of items) us c.next_repeat.new.counts.entries) (sym more) counted.1;
  repeats = c.in_ok-push.ensures.items ∙ ap (λ (l : List ℕ). l ++ c.in_ok-repeat.repeat ∷ []) (c.loop-i.invariant index).repeats ∙ ap (λ n. repeats_after [] before ++ n ∷ []) counted.0
      ∙ sym (repeats-more [] before step) ∙ ap (repeats_after []) (sym more);
}
  where
    items : List LogStep
    items = c.args.steps.now

    i : ℕ
    i = c.loop-i.i

    short : i < length items
    short = c.loop-i-test.true

    before : List Step
    before = steps_of (take i items)

    step : Step
    step = step_of c.index-steps-i.result

    is : step ≡ step_of (get_or items i c.index-steps-i.result)
    is = ap step_of c.index-steps-i.is

    more : steps_of (take (i + 1) items) ≡ before ++ step ∷ []
    more = mapped-more step_of items i c.index-steps-i.result short ∙ ap (λ (s : Step). before ++ s ∷ []) (sym is)

    log : steps_of items ≡ before ++ step ∷ steps_of (drop (suc i) items)
    log = cut-at step_of items i c.index-steps-i.result short ∙ ap (λ (s : Step). before ++ s ∷ steps_of (drop (suc i) items)) (sym is)

    counted : c.in_ok-repeat.repeat ≡ count_by (same_meeting step) before × AreCounts (steps_of items) (before ++ step ∷ []) c.next_repeat.new.counts.entries
    counted = c.in_ok-repeat.ensures (steps_of items) before (steps_of (drop (suc i) items)) index log (omega (arith, many items i short, short, c.requires)) (c.loop-i.invariant index).counts
