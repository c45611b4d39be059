-- Examples of events, and of what steps spend.
use Rattle.std.specs.Prelude.{◌≡◌, ℕ, true, List, [], ◌∷◌, Some, option_map}
use Rattle.calculus.specs.declared.plain.Kind.TheVariants as kinds
use Rattle.calculus.specs.Tree.{row, send}
use Rattle.calculus.specs.Shape.{two, many}
use Rattle.calculus.specs.Outcome.{Prices, within, pure}
use Rattle.calculus.specs.Log.{Step}
use Rattle.calculus.specs.Rows.{Row}
use Rattle.calculus.specs.Steps.{meeting}
use Rattle.calculus.specs.Runs.{Work}
use Rattle.calculus.specs.Examples.{num, step, row_of, datum, receiver, bag}
use Rattle.events.specs.Events.{Core, Event}
use Rattle.events.specs.Spending.{spent_ids}

-- prices of nothing
abbrev pub no_prices : Prices
no_prices = record { comm = 0; send = 0; receive = 0; name = 0; case = 0; op = 0; byte = 0 }

-- the work of an empty body
abbrev pub no_work : Work
no_work = within (pure [])

-- a core of these rows and operations after these steps, each with an empty body
abbrev pub core : List Row → List Row → List Step → List Work → Core
core rows operations steps works = record { store = rows; pending = operations; made = steps; works = works; output = [] }

-- the step of the receiver 2 with the datum 1
abbrev pub the_step : Step
the_step = step (2 ∷ []) ((1 ∷ []) ∷ []) 0

-- events of a datum with the id 1 and a receiver with the id 2 on one channel
pub record EventExamples : Type 0 where
  -- a datum meets a stored receiver, and both leave
  pub datum_meets : Event no_prices 9 (core (receiver (2 ∷ []) kinds.Linear ∷ []) (datum (1 ∷ []) 5 ∷ []) [] []) (core [] [] (the_step ∷ []) (no_work ∷ []))
  -- a receiver meets a stored datum, beside another operation that is pending
  pub receiver_meets : Event no_prices 9 (core (datum (1 ∷ []) 5 ∷ []) (datum (3 ∷ []) 6 ∷ receiver (2 ∷ []) kinds.Linear ∷ []) [] []) (core [] (datum (3 ∷ []) 6 ∷ []) (the_step ∷ []) (no_work ∷ []))
  -- a persistent receiver is pending still
  pub persistent_goes_on : Event no_prices 9 (core (datum (1 ∷ []) 5 ∷ []) (receiver (2 ∷ []) kinds.Persistent ∷ []) [] []) (core [] (receiver (2 ∷ []) kinds.Persistent ∷ []) (the_step ∷ []) (no_work ∷ []))
  -- a peeking receiver leaves its datum stored
  pub peek_leaves : Event no_prices 9 (core (datum (1 ∷ []) 5 ∷ []) (receiver (2 ∷ []) kinds.Peek ∷ []) [] []) (core (datum (1 ∷ []) 5 ∷ []) [] (the_step ∷ []) (no_work ∷ []))
  -- a datum that meets nothing is stored
  pub lonely_datum : Event no_prices 9 (core [] (datum (1 ∷ []) 5 ∷ []) [] []) (core (datum (1 ∷ []) 5 ∷ []) [] [] [])
  -- a datum that meets a stored receiver is not: this step is allowed
  pub not_lonely : Event no_prices 9 (core (receiver (2 ∷ []) kinds.Linear ∷ []) (datum (1 ∷ []) 5 ∷ []) [] []) (core (receiver (2 ∷ []) kinds.Linear ∷ datum (1 ∷ []) 5 ∷ []) [] [] []) → ⊥

-- in a bag of these rows the step of the receiver 2 with the datum 1 spends these ids
abbrev pub Spends : List Row → List (List ℕ) → Type 0
Spends rs xs = option_map (spent_ids the_step) (meeting (bag rs) [] the_step) ≡ Some xs

-- what steps spend; ids are short here
pub record SpendingExamples : Type 0 where
  -- a linear receiver and a linear datum
  pub both : Spends (datum (1 ∷ []) 5 ∷ receiver (2 ∷ []) kinds.Linear ∷ []) ((2 ∷ []) ∷ (1 ∷ []) ∷ [])
  -- a persistent receiver stays
  pub datum_alone : Spends (datum (1 ∷ []) 5 ∷ receiver (2 ∷ []) kinds.Persistent ∷ []) ((1 ∷ []) ∷ [])
  -- a peeking receiver leaves its datum
  pub receiver_alone : Spends (datum (1 ∷ []) 5 ∷ receiver (2 ∷ []) kinds.Peek ∷ []) ((2 ∷ []) ∷ [])
  -- a persistent datum stays
  pub persistent_datum : Spends (row_of (1 ∷ []) (two (send true) (num 1) (many row (num 5 ∷ []))) ∷ receiver (2 ∷ []) kinds.Linear ∷ []) ((2 ∷ []) ∷ [])
  -- with a persistent receiver nothing is spent
  pub nothing : Spends (row_of (1 ∷ []) (two (send true) (num 1) (many row (num 5 ∷ []))) ∷ receiver (2 ∷ []) kinds.Persistent ∷ []) []
