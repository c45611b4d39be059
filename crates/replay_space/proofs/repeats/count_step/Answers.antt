use Rattle.std.proofs.Common.{◌≡◌, suc, List, ℕ, sym, ◌∙◌, [], ap, subst, arith, Vec, Global, ◌++◌, ◌∷◌}
use Rattle.std.specs.Prelude.{Some, None, Option, count_by}
use Rattle.std.specs.Map.{lookup}
use Rattle.std.specs.Option.{unwrap_or}
use Rattle.std.specs.Ordering.{is_eq}
use Rattle.calculus.specs.Log.{Step}
use Rattle.calculus.specs.Steps.{same_meeting, same_ids}
use Rattle.event_log.specs.View.{step_of}
use Rattle.replay_space.specs.Rigs.{AreCounts, Count}
use Rattle.replay_space.proofs.Filed.{key_order, found-count, counts-more, count-le}
use Rattle.replay_space.proofs.repeats.count_step.Goals as goal
use Rattle.replay_space.proofs.repeats.count_step.Goals.{in-Some, in-None}

pub returns : goal.returns
returns c log before small lone are =
    (right, subst (λ (es : List Count). AreCounts log (before ++ step ∷ []) es) (sym c.in_ok-insert.ensures.entries) (counts-more log before step c.in_ok-key.key c.saturating_add.result c.args.counts.now.entries are c.in_ok-key.ensures more))
  where
    step : Step
    step = step_of c.args.step.now

    found : (o : Option ℕ) → o ≡ lookup (λ (k : Vec (List ℕ) Global). is_eq (key_order c.as_slice.result.now k.items)) c.args.counts.now.entries → unwrap_or o 0 ≡ count_by (same_meeting step) before
    found o e = found-count c.as_slice.result.now c.args.counts.now.entries o e ∙ ap (λ (l : List (List ℕ)). unwrap_or (lookup (λ (k : Vec (List ℕ) Global). same_ids l k.items) c.args.counts.now.entries) 0) (c.as_slice.ensures.value ∙ c.in_ok-key.ensures) ∙ are step lone

    right : c.match-get.count ≡ count_by (same_meeting step) before
    right = elim c.match-get.branch [
      | in-Some w ↦ w.count-is ∙ found (Some w.in-Some.count.now) w.in-Some.ensures.value
      | in-None w ↦ w.count-is ∙ found None w.in-None.ensures.value
    ]

    more : c.saturating_add.result ≡ suc (count_by (same_meeting step) before)
    more = omega (arith, c.saturating_add.ensures, right, small, count-le (same_meeting step) before)
