-- Proofs of the examples.
use Rattle.std.proofs.Common.{◌≡◌, true, List, [], ◌∷◌, refl, inl, inr}
use Rattle.std.specs.Prelude.{Option, Some, None}
use Rattle.calculus.proofs.Members.{Member, Every}
use Rattle.calculus.specs.declared.plain.Kind.TheVariants as kinds
use Rattle.calculus.specs.Examples.{datum, receiver}
use Rattle.calculus.specs.Rows.{Row, stdout}
use Rattle.calculus.specs.Steps.{Meeting, standing, differ}
use Rattle.calculus.specs.Candidates.{none_allowed, candidates}
use Rattle.calculus.proofs.Opened.{hashing}
use Rattle.calculus.proofs.Candidates.{candidates_suffice}
use Rattle.events.specs.Events.{with_operation}
use Rattle.events.specs.Found.{met, AreAtHand, step_of}
use Rattle.events.proofs.Counts.{ids, differ-distinct}
use Rattle.events.proofs.Meetings.{makes}
use Rattle.events.proofs.Making.{met-joins, member}
use Rattle.events.specs.EntryExamples.{AfterExamples, ShownExamples, VerdictExamples, printed_datum}
use Rattle.events.specs.Allowed.{rows_at_hand, MeetsNothing}

pub after_examples : AfterExamples
unfolding hashing
after_examples = record { put = refl; datum_meets = refl; persistent_goes_on = refl; prints = refl; equal_ids = refl }

pub verdict_examples : VerdictExamples
verdict_examples = record { done_within = refl; past_the_limit = refl; costs_the_limit = refl; first_fault = refl }

every-hand : (store : List Row) (o : Row) (rs : List Row) → AreAtHand store o rs → Every (λ z. Member z (standing (with_operation store o))) rs
every-hand store o [] h = tt
every-hand store o (r ∷ rs) h = (member r (rows_at_hand store o) h.0, every-hand store o rs h.1)

-- where no candidate is allowed, an operation meets nothing
pub nothing-of : (rows : List Row) (o : Row) → differ (ids (standing (with_operation rows o))) ≡ true → none_allowed (with_operation rows o) [] (candidates (with_operation rows o) []) ≡ true → MeetsNothing rows o
nothing-of rows o d h r sends hand part differs = go (met (r ∷ sends)) refl
  where
    clash : (m : Meeting) → met (r ∷ sends) ≡ Some m → ⊥
    clash m e =
        let j = met-joins (r ∷ sends) m e in
        cc (
          candidates_suffice (with_operation rows o) [] h (step_of [] r sends),
          makes (with_operation rows o) [] (step_of [] r sends) (r ∷ sends) j.joined (differ-distinct (ids (standing (with_operation rows o))) d) differs refl (every-hand rows o (r ∷ sends) hand) j.joins refl,
        )

    go : (x : Option Meeting) → met (r ∷ sends) ≡ x → x ≡ None
    go None e = refl
    go (Some m) e = absurd (clash m e)

alone : MeetsNothing [] (datum (1 ∷ []) 5)
unfolding hashing
alone = nothing-of [] (datum (1 ∷ []) 5) refl refl

not-alone : MeetsNothing (receiver (2 ∷ []) kinds.Linear ∷ []) (datum (1 ∷ []) 5) → ⊥
unfolding hashing
not-alone h =
    let e : met (receiver (2 ∷ []) kinds.Linear ∷ datum (1 ∷ []) 5 ∷ []) ≡ None =
    h (receiver (2 ∷ []) kinds.Linear) (datum (1 ∷ []) 5 ∷ []) (inl refl, (inr (inr (inr (inl refl))), tt)) (inr (inl refl)) refl in
    cc e

pub shown_examples : ShownExamples
unfolding hashing
shown_examples = record {
  alone = alone;
  not_alone = not-alone;
  datum_meets = record {
    receiver = receiver (2 ∷ []) kinds.Linear;
    sends = datum (1 ∷ []) 5 ∷ [];
    at_hand = (inl refl, (inr (inr (inr (inl refl))), tt));
    part = inr (inl refl);
    differs = λ t. refl;
    found = _;
    meets = refl;
    step = refl;
    gone = refl;
    line = refl;
    room = 1;
    work = refl;
    offers = refl;
    price = refl;
    fault = refl;
  };
  persistent_goes_on = record {
    receiver = receiver (2 ∷ []) kinds.Persistent;
    sends = datum (1 ∷ []) 5 ∷ [];
    at_hand = (inr (inr (inr (inl refl))), (inl refl, tt));
    part = inl refl;
    differs = λ t. refl;
    found = _;
    meets = refl;
    step = refl;
    gone = refl;
    line = refl;
    room = 1;
    work = refl;
    offers = refl;
    price = refl;
    fault = refl;
  };
  prints = record {
    receiver = stdout;
    sends = printed_datum ∷ [];
    at_hand = (inl refl, (inr (inr (inl refl)), tt));
    part = inr (inl refl);
    differs = λ t. refl;
    found = _;
    meets = refl;
    step = refl;
    gone = refl;
    line = refl;
    room = 1;
    work = refl;
    offers = refl;
    price = refl;
    fault = refl;
  };
}
