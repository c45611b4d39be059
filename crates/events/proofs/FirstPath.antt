-- The entries of a whole deploy are allowed, and come to a run.
use Rattle.std.proofs.Common.{◌≡◌, true, List, [], ◌∷◌, ◌++◌, refl, ap, sym, ◌∙◌, subst, inl, inr}
use Rattle.std.specs.Prelude.{None}
use Rattle.calculus.specs.Log.{Step}
use Rattle.calculus.specs.Steps.{meeting}
use Rattle.calculus.specs.Runs.{Work}
use Rattle.calculus.specs.Examples.{first_path_source, first_path_digest, first_path_step, prices}
use Rattle.calculus.specs.Rows.{Row}
use Rattle.calculus.proofs.Opened.{hashing}
use Rattle.calculus.proofs.Candidates.{candidates_suffice}
use Rattle.events.specs.Events.{stored, with_operation, takes_part, Event, AreFresh}
use Rattle.events.specs.EventLaws.{Begins}
use Rattle.events.proofs.Fresh.{fresh_digests_are_fresh}
use Rattle.events.proofs.Keeping.{fresh-first}
use Rattle.events.proofs.FreshComputed.{fresh_examples}
use Rattle.events.specs.EntryExamples.{FirstPathExamples, first_row, first_path, first_path_work, first_path_start, first_path_put, first_path_body, first_path_making, first_path_meets, first_path_wrong, first_path_last, first_path_entries}
use Rattle.events.specs.Entries.{Space, after, after_all}
use Rattle.events.specs.Allowed.{core_of, AreAmong, MeetsNothing, MakesStep, IsAllowed, AreAllowed}
use Rattle.events.proofs.Growing.{one_more_is_allowed}
use Rattle.events.proofs.EntryHolding.{held}
use Rattle.events.proofs.EntryEnding.{comes}
use Rattle.events.proofs.Showing.{lonely_entries_are_allowed, step_entries_are_allowed}
use Rattle.events.proofs.EntryComputed.{nothing-of}

begins : Begins first_path first_path_work
unfolding hashing
begins = record { unfolds = (9, refl); quiet = λ s. candidates_suffice (stored []) [] refl s }

none : AreAllowed first_path first_path_work [] first_path_start
none = record { begins = begins; allowed = tt; is = refl }

fresh : AreFresh first_path (first_path_step ∷ [])
fresh = fresh_digests_are_fresh prices 22 first_path_source first_path_digest (first_path_step ∷ []) fresh_examples.fresh

-- the first operation
abbrev first : Row
first = first_row first_path_start.pending

lonely-first : MeetsNothing [] first
unfolding hashing
lonely-first = nothing-of [] first refl refl

first-allowed : IsAllowed first_path first_path_start first_path_put
unfolding hashing
first-allowed = lonely_entries_are_allowed first_path first_path_work [] first_path_start none first (inl refl) [] (λ r m. m) lonely-first

-- the space after it
abbrev space_one : Space
space_one = after first_path_start first_path_put

one : AreAllowed first_path first_path_work (first_path_put ∷ []) space_one
one = one_more_is_allowed first_path first_path_work [] first_path_start first_path_put none first-allowed

abbrev second : Row
second = first_row space_one.pending

-- steps are made here
meets-here : meeting (with_operation space_one.store second) [] first_path_step ≡ None → ⊥
unfolding hashing
meets-here e = cc e

takes-part : takes_part second first_path_step ≡ true
unfolding hashing
takes-part = refl

-- the one operation that is pending
only-one : (r q : Row) (before later : List Row) → r ∷ [] ≡ before ++ q ∷ later → r ≡ q
only-one r q [] later e = cc e
only-one r q (b ∷ before) later e = absurd (none-longer before (rest (before ++ q ∷ later) e))
  where
    rest : (qs : List Row) → r ∷ [] ≡ b ∷ qs → [] ≡ qs
    rest qs e = cc e

    none-longer : (before : List Row) → [] ≡ before ++ q ∷ later → ⊥
    none-longer [] e = cc e
    none-longer (b ∷ before) e = cc e

one-pending : space_one.pending ≡ second ∷ []
unfolding hashing
one-pending = refl

no-event : (works later : List Work) → Event prices 22 (core_of space_one works) (core_of (after space_one first_path_wrong) later) → ⊥
no-event works later (inl e) =
    let same : second ≡ e.operation = only-one second e.operation e.before e.after (sym one-pending ∙ e.pending) in
    meets-here (subst (λ r. meeting (with_operation space_one.store r) [] first_path_step ≡ None) (sym same) (e.alone first_path_step (subst (λ r. takes_part r first_path_step ≡ true) same takes-part)))
no-event works later (inr e) = no-step e.step (ap (λ x. x.made) e.is)
  where
    no-step : (s : Step) → [] ≡ s ∷ [] → ⊥
    no-step s e = cc e

refused : IsAllowed first_path space_one first_path_wrong → ⊥
refused h = let i = h (fresh-first first_path [] (first_path_step ∷ []) fresh) in no-event i.reached.works i.works i.event

-- which is the receiver
makes-step : MakesStep first_path space_one.store space_one.made second first_path_making first_path_body
unfolding hashing
makes-step = record {
  receiver = second;
  sends = first ∷ [];
  at_hand = (inr (inr (inr (inl refl))), (inl refl, tt));
  part = inl refl;
  differs = λ t. refl;
  found = _;
  meets = refl;
  step = refl;
  gone = refl;
  line = refl;
  room = 9;
  work = refl;
  offers = refl;
  price = refl;
  fault = refl;
}

second-allowed : IsAllowed first_path space_one first_path_meets
unfolding hashing
second-allowed = step_entries_are_allowed first_path first_path_work (first_path_put ∷ []) space_one one second (inl refl) space_one.store (λ r m. m) first_path_making first_path_body makes-step

-- the space after it
abbrev space_two : Space
space_two = after space_one first_path_meets

two : AreAllowed first_path first_path_work (first_path_put ∷ first_path_meets ∷ []) space_two
two = one_more_is_allowed first_path first_path_work (first_path_put ∷ []) space_one first_path_meets one second-allowed

abbrev third : Row
third = first_path_last.operation

lonely-third : MeetsNothing [] third
unfolding hashing
lonely-third = nothing-of [] third refl refl

empty-store : AreAmong space_two.store []
unfolding hashing
empty-store = λ r m. m

third-allowed : IsAllowed first_path space_two first_path_last
unfolding hashing
third-allowed = lonely_entries_are_allowed first_path first_path_work (first_path_put ∷ first_path_meets ∷ []) space_two two third (inl refl) [] empty-store lonely-third

abbrev space_three : Space
space_three = after_all first_path_start first_path_entries

three : AreAllowed first_path first_path_work first_path_entries space_three
three = one_more_is_allowed first_path first_path_work (first_path_put ∷ first_path_meets ∷ []) space_two first_path_last two third-allowed

empty-pending : space_three.pending ≡ []
unfolding hashing
empty-pending = refl

pub first_path_examples : FirstPathExamples
unfolding hashing
first_path_examples = record {
  allowed = three;
  refused = refused;
  steps = refl;
  nothing_pending = empty-pending;
  done = refl;
  costs = refl;
  comes = comes first_path first_path_work first_path_entries space_three three (held first_path first_path_work first_path_entries space_three three fresh) fresh;
}
