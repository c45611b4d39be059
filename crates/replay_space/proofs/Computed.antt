-- Proofs of the examples of what is kept.
use Rattle.std.proofs.Common.{◌≡◌, ◌∷◌, [], ℕ, arith, refl, sym, ap, ◌∙◌, subst, inl, inr}
use Rattle.calculus.proofs.Opened.{hashing}
use Rattle.calculus.specs.Examples.{datum}
use Rattle.racing_replays.specs.Replaying.{DoneStep, rows_by}
use Rattle.replay_space.specs.Kept.{Has}
use Rattle.replay_space.specs.Examples.{RigExamples, take, done_so, offering}

nothing : ◌≡◌ {A = ℕ} 0 1 → ⊥
nothing e = omega (arith, e)

-- of the two done steps the one with the index 0 offered nothing
none_there : (d : DoneStep) → Has d (done_so 0 take ∷ offering ∷ []) → d.index ≡ 0 → Has (datum (7 ∷ []) 5) (rows_by d) → ⊥
none_there d (inl e) i h = subst (λ (x : DoneStep). Has (datum (7 ∷ []) 5) (rows_by x)) e h
none_there d (inr (inl e)) i h = nothing (sym i ∙ ap (λ (x : DoneStep). x.index) e)
none_there d (inr (inr e)) i h = e

pub rig_examples : RigExamples
unfolding hashing
rig_examples = record {
  of_a_datum = refl;
  of_the_peek = refl;
  of_another = refl;
  named_twice = refl;
  first_use = refl;
  second_use = refl;
  no_third_use = refl;
  used_once = record { origin = inl refl; count = refl };
  used_and_counted = λ s. nothing s.count;
  used_twice = record { origin = inl refl; count = refl };
  not_named = record { origin = inl refl; count = refl };
  offered_here = record { origin = record { done = offering; there = inr (inl refl); index = refl; row = inl refl }; count = refl };
  not_offered_there = λ s. none_there s.origin.done s.origin.there s.origin.index s.origin.row;
  its_turn = record { lower = (tt, tt); next = (refl, tt) };
  too_early = λ t. omega (arith, t.next.0);
  not_from_later = λ t. omega (arith, t.lower.0);
  from_below = record { lower = (omega arith, tt); next = (refl, tt) };
  peek_first = refl;
  take_first = refl;
  repeats = refl;
  repeats_of_wrong_numbers = refl;
  all_repeats = refl;
  a_wrong_repeat = refl;
}
