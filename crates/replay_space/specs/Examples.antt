-- Examples of what is kept of a log and of rows.
use Rattle.std.specs.Prelude.{◌≡◌, ℕ, true, List, [], ◌∷◌, Some, None, slice_get, option_map}
use Rattle.calculus.specs.declared.plain.Kind.TheVariants as kinds
use Rattle.calculus.specs.Tree.{send, row}
use Rattle.calculus.specs.Shape.{two, many}
use Rattle.calculus.specs.Log.{Step}
use Rattle.calculus.specs.Steps.{Bag}
use Rattle.calculus.specs.Examples.{num, step, row_of, datum, receiver, bag}
use Rattle.calculus.specs.Outcome.{within, pure}
use Rattle.calculus.specs.Unfolding.{a_row}
use Rattle.events.specs.EventExamples.{no_prices, no_work}
use Rattle.racing_replays.specs.Replaying.{DoneStep, walk}
use Rattle.racing_replays.specs.Counted.{uses}
use Rattle.racing_replays.specs.Examples.{outcome}
use Rattle.replay_space.specs.Rigs.{repeats_after}
use Rattle.replay_space.specs.Kept.{SeenRow, IsSeen, IsTheirTurn}

-- the receiver 2 peeks at the datum 1, and the linear receiver 4 takes it
abbrev pub peek : Step
peek = step (2 ∷ []) ((1 ∷ []) ∷ []) 0

abbrev pub take : Step
take = step (4 ∷ []) ((1 ∷ []) ∷ []) 0

-- these rows
abbrev pub the_bag : Bag
the_bag = bag (datum (1 ∷ []) 5 ∷ receiver (2 ∷ []) kinds.Peek ∷ receiver (4 ∷ []) kinds.Linear ∷ [])

-- the datum 1, which stood there from the start, once so many done steps name it
abbrev pub the_datum : ℕ → SeenRow
the_datum n = record { row = datum (1 ∷ []) 5; from = None; done = n }

-- these steps are done, and offered nothing; and a step is that offered the datum 7
abbrev pub done_so : ℕ → Step → DoneStep
done_so i s = record { index = i; step = s; work = no_work; printed = [] }

abbrev pub offering : DoneStep
offering = record { index = 1; step = peek; work = within (pure (a_row (datum (7 ∷ []) 5) ∷ [])); printed = [] }

-- the datum 7, if a step with this index offered it
abbrev pub offered_at : ℕ → SeenRow
offered_at i = record { row = datum (7 ∷ []) 5; from = Some i; done = 0 }

-- a persistent receiver meets a persistent datum again and again, and another datum between
abbrev pub again : ℕ → Step
again n = step (2 ∷ []) ((1 ∷ []) ∷ []) n

abbrev pub other : Step
other = step (2 ∷ []) ((3 ∷ []) ∷ []) 0

abbrev pub many_steps : List Step
many_steps = again 0 ∷ other ∷ again 1 ∷ again 2 ∷ []

-- these rows, the datum 1 persistent
abbrev pub lasting_bag : Bag
lasting_bag = bag (row_of (1 ∷ []) (two (send true) (num 1) (many row (num 5 ∷ []))) ∷ datum (3 ∷ []) 6 ∷ receiver (2 ∷ []) kinds.Persistent ∷ [])

pub record RigExamples : Type 0 where
  -- both steps use the datum, in either order, and each receiver has one use
  pub of_a_datum : uses (1 ∷ []) 0 (peek ∷ take ∷ []) ≡ 0 ∷ 1 ∷ []
  pub of_the_peek : uses (2 ∷ []) 0 (take ∷ peek ∷ []) ≡ 1 ∷ []
  -- an id that no step names has none
  pub of_another : uses (9 ∷ []) 0 (peek ∷ take ∷ []) ≡ []
  -- a step that names an id twice is one use of it
  pub named_twice : uses (1 ∷ []) 0 (step (1 ∷ []) ((1 ∷ []) ∷ (1 ∷ []) ∷ []) 0 ∷ []) ≡ 0 ∷ []
  -- the datum's first use, the next one, and no third
  pub first_use : slice_get (uses (1 ∷ []) 0 (peek ∷ take ∷ [])) 0 ≡ Some 0
  pub second_use : slice_get (uses (1 ∷ []) 0 (peek ∷ take ∷ [])) 1 ≡ Some 1
  pub no_third_use : slice_get (uses (1 ∷ []) 0 (peek ∷ take ∷ [])) 2 ≡ None
  -- the peek counts as a use of the datum, and a step that does not name it counts as none
  pub used_once : IsSeen the_bag (done_so 0 peek ∷ []) (the_datum 1)
  pub used_and_counted : IsSeen the_bag (done_so 0 peek ∷ []) (the_datum 0) → ⊥
  pub used_twice : IsSeen the_bag (done_so 1 take ∷ done_so 0 peek ∷ []) (the_datum 2)
  pub not_named : IsSeen the_bag (done_so 0 (step (2 ∷ []) ((3 ∷ []) ∷ []) 0) ∷ []) (the_datum 0)
  -- a row comes from the step that offered it, and from no other
  pub offered_here : IsSeen the_bag (done_so 0 take ∷ offering ∷ []) (offered_at 1)
  pub not_offered_there : IsSeen the_bag (done_so 0 take ∷ offering ∷ []) (offered_at 0) → ⊥
  -- the taking step is the datum's next use once one step that names it is done, and not before
  pub its_turn : IsTheirTurn (peek ∷ []) (the_datum 1 ∷ [])
  pub too_early : IsTheirTurn (peek ∷ []) (the_datum 0 ∷ []) → ⊥
  -- a datum that a later step offered is none for this one, though it is there and unused
  pub not_from_later : IsTheirTurn (peek ∷ []) (record { row = datum (7 ∷ []) 5; from = Some 1; done = 0 } ∷ []) → ⊥
  pub from_below : IsTheirTurn (peek ∷ []) (record { row = datum (7 ∷ []) 5; from = Some 0; done = 0 } ∷ [])
  -- the log that peeks first is done whole; of the one that takes first the peek is left
  pub peek_first : option_map outcome (walk no_prices 9 1 the_bag (peek ∷ take ∷ [])) ≡ Some (0 ∷ 1 ∷ [], [])
  pub take_first : option_map outcome (walk no_prices 9 1 the_bag (take ∷ peek ∷ [])) ≡ Some (0 ∷ [], (2 ∷ []) ∷ [])
  -- how often each step stands before itself, whatever number it has
  pub repeats : repeats_after [] many_steps ≡ 0 ∷ 0 ∷ 1 ∷ 2 ∷ []
  pub repeats_of_wrong_numbers : repeats_after [] (again 5 ∷ again 0 ∷ []) ≡ 0 ∷ 1 ∷ []
  -- such a log is done whole, and one whose second number is wrong ends before it
  pub all_repeats : option_map outcome (walk no_prices 9 1 lasting_bag many_steps) ≡ Some (0 ∷ 1 ∷ 2 ∷ 3 ∷ [], (1 ∷ []) ∷ (2 ∷ []) ∷ [])
  pub a_wrong_repeat : option_map outcome (walk no_prices 9 1 lasting_bag (again 0 ∷ again 2 ∷ again 1 ∷ [])) ≡ Some (0 ∷ [], (1 ∷ []) ∷ (3 ∷ []) ∷ (2 ∷ []) ∷ [])
