-- Proofs of the examples of events.
use Rattle.std.specs.Prelude.{◌≡◌, true, List, [], ◌∷◌, ◌++◌, None, refl}
use Rattle.std.proofs.Common.{ap, sym, subst, inl, inr}
use Rattle.calculus.specs.declared.plain.Kind.TheVariants as kinds
use Rattle.calculus.specs.Examples.{datum, receiver}
use Rattle.calculus.proofs.Opened.{hashing}
use Rattle.calculus.proofs.Candidates.{candidates_suffice}
use Rattle.calculus.specs.Log.{Step}
use Rattle.calculus.specs.Rows.{Row}
use Rattle.calculus.specs.Steps.{meeting}
use Rattle.events.specs.Events.{with_operation, takes_part, Event}
use Rattle.events.specs.EventExamples.{no_prices, core, the_step, no_work, EventExamples, SpendingExamples}

no-longer : (before after : List Row) (q : Row) → [] ≡ before ++ q ∷ after → ⊥
no-longer [] after q e = cc e
no-longer (b ∷ before) after q e = cc e

-- the one operation that is pending
only-one : (r q : Row) (before after : List Row) → r ∷ [] ≡ before ++ q ∷ after → r ≡ q
only-one r q [] after e = cc e
only-one r q (b ∷ before) after e = absurd (no-longer before after q (rest (before ++ q ∷ after) e))
  where
    rest : (qs : List Row) → r ∷ [] ≡ b ∷ qs → [] ≡ qs
    rest qs e = cc e

allowed : meeting (with_operation (receiver (2 ∷ []) kinds.Linear ∷ []) (datum (1 ∷ []) 5)) [] the_step ≡ None → ⊥
unfolding hashing
allowed e = cc e

never : Event no_prices 9 (core (receiver (2 ∷ []) kinds.Linear ∷ []) (datum (1 ∷ []) 5 ∷ []) [] []) (core (receiver (2 ∷ []) kinds.Linear ∷ datum (1 ∷ []) 5 ∷ []) [] [] []) → ⊥
never (inl e) =
    let same : datum (1 ∷ []) 5 ≡ e.operation = only-one _ _ e.before e.after e.pending in
    allowed (subst (λ r. meeting (with_operation (receiver (2 ∷ []) kinds.Linear ∷ []) r) [] the_step ≡ None) (sym same) (e.alone the_step (subst (λ r. takes_part r the_step ≡ true) same refl)))
never (inr e) = none e.step (ap (λ x. x.made) e.is)
  where
    none : (s : Step) → [] ≡ s ∷ [] → ⊥
    none s e = cc e

pub event_examples : EventExamples
unfolding hashing
event_examples =
    record {
      datum_meets = inr (record { operation = datum (1 ∷ []) 5; before = []; after = []; pending = refl; step = the_step; takes = refl; found = _; allowed = refl; room = 1; work = no_work; works = refl; is = refl });
      receiver_meets = inr (record { operation = receiver (2 ∷ []) kinds.Linear; before = datum (3 ∷ []) 6 ∷ []; after = []; pending = refl; step = the_step; takes = refl; found = _; allowed = refl; room = 1; work = no_work; works = refl; is = refl });
      persistent_goes_on = inr (record { operation = receiver (2 ∷ []) kinds.Persistent; before = []; after = []; pending = refl; step = the_step; takes = refl; found = _; allowed = refl; room = 1; work = no_work; works = refl; is = refl });
      peek_leaves = inr (record { operation = receiver (2 ∷ []) kinds.Peek; before = []; after = []; pending = refl; step = the_step; takes = refl; found = _; allowed = refl; room = 1; work = no_work; works = refl; is = refl });
      lonely_datum = inl (record { operation = datum (1 ∷ []) 5; before = []; after = []; pending = refl; alone = λ s k. candidates_suffice (with_operation [] (datum (1 ∷ []) 5)) [] refl s; is = refl });
      not_lonely = never;
    }

pub spending_examples : SpendingExamples
unfolding hashing
spending_examples = record { both = refl; datum_alone = refl; receiver_alone = refl; persistent_datum = refl; nothing = refl }
