use Rattle.std.proofs.Common.{List, ◌∷◌, length, ap, subst, ◌∙◌, arith}
use Rattle.std.specs.Prelude.{Option}
use Rattle.hub_scenes.specs.Closing.{in_log_order}
use Rattle.replay_outcome.specs.declared.places.Came.{Came}
use Rattle.replay_outcome.proofs.Summing.{Along, one-along, undone}
use Rattle.replay_outcome.proofs.sum.sum_up.Goals as goal

pub returns-in-None-place : goal.returns-in-None-place
returns-in-None-place c ds k =
    let s = c.in-Some.ensures.steps in
    let i = c.loop-place.invariant in
    let index = c.loop-place.index in
    let rest = c.next.new.self.rest.items in
    let one = ap (λ (os : List (Option Came)). length os) s.0 in
    let along = subst (λ (os : List (Option Came)). Along c.args.price c.args.fault ds index os c.loop-place.sum) (s.0 ∙ ap (λ (o : Option Came). o ∷ rest) c.in-None-place.is) (i.along ds k) in
    (omega (arith, i.many, one), undone c.args.price c.args.fault ds index rest c.loop-place.sum along)

pub loop-place-preserved : goal.loop-place-preserved
loop-place-preserved c =
    let s = c.in-Some.ensures.steps in
    let i = c.loop-place.invariant in
    let index = c.loop-place.index in
    let rest = c.next.new.self.rest.items in
    let one = ap (λ (os : List (Option Came)). length os) s.0 in
    record {
      many = omega (arith, i.many, one);
      along = λ ds k.
          let a = i.along ds k in
          one-along c.args.price c.args.fault ds index c.in-Some-place.came rest c.loop-place.sum c.add_step.new.sum
          (subst (λ (os : List (Option Came)). Along c.args.price c.args.fault ds index os c.loop-place.sum) (s.0 ∙ ap (λ (o : Option Came). o ∷ rest) c.in-Some-place.is) a)
          (λ d p f l. c.in_ok-add_step-in-Some-place.ensures c.args.price c.args.fault (in_log_order index ds) d a.sum a.long p f l);
    }
