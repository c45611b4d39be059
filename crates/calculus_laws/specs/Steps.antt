-- Examples of steps that are allowed or not.
use Rattle.std.specs.Prelude.{◌≡◌, ℕ, true, List, [], ◌∷◌, Some, None, option_map}
use Rattle.calculus.specs.declared.plain.Kind.TheVariants as kinds
use Rattle.calculus.specs.Tree.{row, send, Tree}
use Rattle.calculus.specs.Shape.{two, many}
use Rattle.calculus.specs.Examples.{whole, num, nil, sent, heard, on, thin, a_var, step, row_of, datum, receiver, bag}
use Rattle.calculus.specs.Log.{Step}
use Rattle.calculus.specs.Rows.{Row, system_name, stdout}
use Rattle.calculus.specs.Steps.{Meeting, meeting, stored_rows}

-- what a meeting binds, and the places of the rows that leave
abbrev pub outcome_of : Meeting → List Tree × List ℕ
outcome_of m = (m.bindings, m.leaving)

-- a step is allowed in a bag of these rows after these steps: it binds this, and the rows of these places leave
abbrev pub Allows : List Row → List Step → Step → List Tree → List ℕ → Type 0
Allows rs made s vs ps = option_map outcome_of (meeting (bag rs) made s) ≡ Some (vs, ps)

-- a step is not allowed in a bag of these rows after these steps
abbrev pub Refuses : List Row → List Step → Step → Type 0
Refuses rs made s = meeting (bag rs) made s ≡ None

-- which steps are allowed, what they bind, and which rows leave; ids are short here
pub record StepExamples : Type 0 where
  -- a linear receiver and a linear datum leave
  pub both_leave : Allows (datum (1 ∷ []) 5 ∷ receiver (2 ∷ []) kinds.Linear ∷ []) [] (step (2 ∷ []) ((1 ∷ []) ∷ []) 0) (num 5 ∷ []) (1 ∷ 0 ∷ [])
  -- a persistent receiver stays
  pub persistent_stays : Allows (datum (1 ∷ []) 5 ∷ receiver (2 ∷ []) kinds.Persistent ∷ []) [] (step (2 ∷ []) ((1 ∷ []) ∷ []) 0) (num 5 ∷ []) (0 ∷ [])
  -- a peeking receiver leaves its datum where it is
  pub peek_leaves_the_datum : Allows (datum (1 ∷ []) 5 ∷ receiver (2 ∷ []) kinds.Peek ∷ []) [] (step (2 ∷ []) ((1 ∷ []) ∷ []) 0) (num 5 ∷ []) (1 ∷ [])
  -- a persistent datum stays
  pub persistent_datum_stays : Allows (row_of (1 ∷ []) (two (send true) (num 1) (many row (num 5 ∷ []))) ∷ receiver (2 ∷ []) kinds.Linear ∷ []) [] (step (2 ∷ []) ((1 ∷ []) ∷ []) 0) (num 5 ∷ []) (1 ∷ [])
  -- a join takes a datum for each bind, in the order of the binds
  pub join_takes_both : Allows (row_of (1 ∷ []) (sent (num 2) (num 7 ∷ [])) ∷ datum (3 ∷ []) 5 ∷ row_of (2 ∷ []) (heard (on (num 1) (a_var ∷ []) ∷ on (num 2) (a_var ∷ []) ∷ []) nil) ∷ []) [] (step (2 ∷ []) ((3 ∷ []) ∷ (1 ∷ []) ∷ []) 0) (num 5 ∷ num 7 ∷ []) (2 ∷ 1 ∷ 0 ∷ [])
  -- one datum does not serve two binds
  pub data_must_differ : Refuses (datum (1 ∷ []) 5 ∷ row_of (2 ∷ []) (heard (on (num 1) (a_var ∷ []) ∷ on (num 1) (a_var ∷ []) ∷ []) nil) ∷ []) [] (step (2 ∷ []) ((1 ∷ []) ∷ (1 ∷ []) ∷ []) 0)
  -- a datum on another channel
  pub channels_must_agree : Refuses (row_of (1 ∷ []) (sent (num 2) (num 5 ∷ [])) ∷ receiver (2 ∷ []) kinds.Linear ∷ []) [] (step (2 ∷ []) ((1 ∷ []) ∷ []) 0)
  -- a datum that the pattern `@6` does not match
  pub patterns_must_match : Refuses (datum (1 ∷ []) 5 ∷ row_of (2 ∷ []) (heard (on (num 1) (thin (whole 6) ∷ []) ∷ []) nil) ∷ []) [] (step (2 ∷ []) ((1 ∷ []) ∷ []) 0)
  -- of two rows of one id the oldest that fits is taken
  pub equal_ids : Allows (datum (1 ∷ []) 5 ∷ datum (1 ∷ []) 6 ∷ row_of (2 ∷ []) (heard (on (num 1) (thin (whole 6) ∷ []) ∷ []) nil) ∷ []) [] (step (2 ∷ []) ((1 ∷ []) ∷ []) 0) [] (2 ∷ 1 ∷ [])
  -- a linear datum has no repeat
  pub no_repeat_with_a_linear_datum : Refuses (datum (1 ∷ []) 5 ∷ receiver (2 ∷ []) kinds.Persistent ∷ []) (step (2 ∷ []) ((1 ∷ []) ∷ []) 0 ∷ []) (step (2 ∷ []) ((1 ∷ []) ∷ []) 1)
  -- a repeat looks past a linear row of the same id for a persistent one
  pub repeat_with_equal_ids : Allows (datum (1 ∷ []) 5 ∷ row_of (1 ∷ []) (two (send true) (num 1) (many row (num 6 ∷ []))) ∷ receiver (2 ∷ []) kinds.Persistent ∷ []) (step (2 ∷ []) ((1 ∷ []) ∷ []) 0 ∷ []) (step (2 ∷ []) ((1 ∷ []) ∷ []) 1) (num 6 ∷ []) []
  -- the built-in receiver takes a datum on its name, and stays
  pub built_in_takes : Allows (row_of (1 ∷ []) (sent (system_name 0) (num 5 ∷ [])) ∷ []) [] (step stdout.id ((1 ∷ []) ∷ []) 0) (num 5 ∷ []) (0 ∷ [])
  -- a checkpoint's row with the id of a built-in receiver is a row like any other
  pub stored_row_with_that_id : Allows (datum (1 ∷ []) 5 ∷ receiver stdout.id kinds.Linear ∷ []) [] (step stdout.id ((1 ∷ []) ∷ []) 0) (num 5 ∷ []) (1 ∷ 0 ∷ [])
  -- and such a row is stored again
  pub it_is_stored : stored_rows (bag (receiver stdout.id kinds.Linear ∷ [])) ≡ receiver stdout.id kinds.Linear ∷ []
