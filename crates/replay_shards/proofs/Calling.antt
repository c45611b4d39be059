-- A step of a log, and what a step makes of the shards in hand.
use Rattle.std.proofs.Common.{◌≡◌, ◌<◌, ℕ, zero, suc, List, [], ◌∷◌, ◌++◌, map as each, length, refl, ap, subst, ◌∙◌, arith, get_or}
use Rattle.std.specs.Prelude.{option_map, flat_map}
use Rattle.calculus.specs.Log.{Step}
use Rattle.event_log.specs.declared.log.LogStep.{LogStep}
use Rattle.event_log.specs.View.{step_of, steps_of}
use Rattle.calculus.proofs.Permutations.{unmoved}
use Rattle.events.specs.Entries.{Making}
use Rattle.hub_scenes.specs.Spaces.{IndexTry}
use Rattle.hub_scenes.specs.Entries.{does, left_of, PartBecomes}
use Rattle.replay_rows.specs.Rows.{settled_part}
use Rattle.replay_slots.specs.Hands.{InHand, shard_at, AllBecome}
use Rattle.replay_slots.proofs.Placing.{mapped-at}

-- the step at its place
pub its-step : (log : List LogStep) (before : List Step) (s : Step) (after : List Step) (i : ℕ) (d : LogStep) → steps_of log ≡ before ++ s ∷ after → length before ≡ i → step_of (get_or log i d) ≡ s
its-step [] [] s after i d e p = absurd (cc)
its-step [] (b ∷ before) s after i d e p = absurd (cc)
its-step (x ∷ log) [] s after zero d e p = cc e
its-step (x ∷ log) [] s after (suc i) d e p = absurd (cc)
its-step (x ∷ log) (b ∷ before) s after zero d e p = absurd (cc)
its-step (x ∷ log) (b ∷ before) s after (suc i) d e p = its-step log before s after i d (cc e) (cc p)

-- each shard in hand becomes what a step makes of it
pub all-become : (t : IndexTry) (a : Making) (next : List IndexTry) (s : Step) (gone : List (List ℕ)) (old new : InHand) → a.step ≡ s → a.gone ≡ gone → new ≡ each (option_map (settled_part s gone)) old → AllBecome (does t a next) old new
all-become t a next s gone old new e g n = record {
  there = λ k x h. (settled_part s gone x, at k ∙ ap (option_map (settled_part s gone)) h, subst (λ (u : Step). PartBecomes (does t a next) k x (settled_part u gone x)) e (subst (λ (l : List (List ℕ)). PartBecomes (does t a next) k x (settled_part a.step l x)) g (record { number = refl; rows = λ d. unmoved (flat_map (left_of a.step a.gone) x.rows); built = refl })));
  absent = λ k h. at k ∙ ap (option_map (settled_part s gone)) h;
}
  where
    at : (k : ℕ) → shard_at new k ≡ option_map (settled_part s gone) (shard_at old k)
    at k = ap (λ (h : InHand). shard_at h k) n ∙ mapped-at (settled_part s gone) old k

-- the steps before and after the one at a place
pub record Split (log : List LogStep) (i : ℕ) (u : LogStep) : Type 0 where
  pub before : List Step
  pub after : List Step
  pub is : steps_of log ≡ before ++ step_of u ∷ after
  pub place : length before ≡ i

pub split-at : (log : List LogStep) (i : ℕ) (d : LogStep) → i < length log → Split log i (get_or log i d)
split-at [] i d h = absurd (omega (arith, h))
split-at (x ∷ log) zero d h = record { before = []; after = steps_of log; is = refl; place = refl }
split-at (x ∷ log) (suc i) d h =
    let k = split-at log i d (omega (arith, h)) in
    record { before = step_of x ∷ k.before; after = k.after; is = ap (λ l. step_of x ∷ l) k.is; place = ap suc k.place }

pub as-many-steps : (log : List LogStep) → length (steps_of log) ≡ length log
as-many-steps [] = refl
as-many-steps (x ∷ log) = ap suc (as-many-steps log)
