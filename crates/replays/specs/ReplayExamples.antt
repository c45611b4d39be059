-- Examples of answers to replays.
use Rattle.std.specs.Prelude.{ℕ, List, [], ◌∷◌, Some, None, replicate}
use Rattle.calculus.specs.declared.plain.BinaryOp.TheVariants as op
use Rattle.calculus.specs.declared.fault.FaultKind.TheVariants as fault
use Rattle.calculus.specs.Tree.{Tree}
use Rattle.calculus.specs.Outcome.{Prices}
use Rattle.calculus.specs.Log.{Step, Header}
use Rattle.calculus.specs.Rows.{Row, system_name, stdout, stdout_ack}
use Rattle.calculus.specs.Seeds.{digest_of, Split, Comm}
use Rattle.calculus.specs.Root.{root}
use Rattle.calculus.specs.Runs.{done, exhausted, faulted}
use Rattle.calculus.specs.Examples.{nil, num, op_on, sent, heard, on, a_var, step, row_of}
use Rattle.calculus.specs.Limits.{price_digest}
use Rattle.replays.specs.Replays.{Given, wrong_base, wrong_source, wrong_prices, wrong_limit, no_run, reducible, Answer, refused, replayed, Answers}

-- a price of 3 for a step, and of nothing else
abbrev pub prices : Prices
prices = record { comm = 3; send = 0; receive = 0; name = 0; case = 0; op = 0; byte = 0 }

-- a digest for the source
abbrev pub source : List ℕ
source = replicate 32 7

-- what is given: these rows and this process
abbrev pub given_with : List Row → Tree → Given
given_with rows t = record { rows = rows; process = t; source = source; prices = prices }

-- what is given: these rows, and the empty process
abbrev pub given : List Row → Given
given rows = given_with rows nil

-- `1 / 0`
abbrev pub by_zero : Tree
by_zero = op_on op.Div (num 1) (num 0)

-- a header that names these rows and this limit
abbrev pub header : List Row → ℕ → Header
header rows limit = record { base = root rows; source = source; prices = price_digest prices; limit = limit }

-- a datum 5 on the name behind `rho:io:stdout`
abbrev pub printed_datum : Row
printed_datum = row_of (1 ∷ []) (sent (system_name 0) (num 5 ∷ []))

-- the step in which the built-in receiver takes it
abbrev pub printing_step : Step
printing_step = step stdout.id ((1 ∷ []) ∷ []) 0

-- the same datum with another id
abbrev pub second_datum : Row
second_datum = row_of (2 ∷ []) (sent (system_name 0) (num 5 ∷ []))

-- a datum on the name behind `rho:io:stdoutAck`: 5, and the name `@7`
abbrev pub datum_with_name : Row
datum_with_name = row_of (1 ∷ []) (sent (system_name 1) (num 5 ∷ num 7 ∷ []))

-- the step in which the second built-in receiver takes it
abbrev pub answering_step : Step
answering_step = step stdout_ack.id ((1 ∷ []) ∷ []) 0

-- what that receiver sends on the name: `@7!(Nil)`
abbrev pub answer_row : Row
answer_row = record { id = digest_of (Split (digest_of (Comm stdout_ack.id ((1 ∷ []) ∷ []) 0)) 0); part = sent (num 7) (nil ∷ []) }

-- `@1!(0)`
abbrev pub zero_row : Row
zero_row = row_of (2 ∷ []) (sent (num 1) (num 0 ∷ []))

-- `for (@x <- @1) { 1 / 0 }`
abbrev pub failing_row : Row
failing_row = row_of (3 ∷ []) (heard (on (num 1) (a_var ∷ []) ∷ []) by_zero)

-- the step in which these two meet
abbrev pub failing_step : Step
failing_step = step (3 ∷ []) ((2 ∷ []) ∷ []) 0

-- a run that is done at no cost
abbrev pub nothing : Answer
nothing = replayed (record { verdict = done; cost = 0; rows = []; output = [] })

-- logs and their answers
pub record ReplayExamples : Type 0 where
  -- no step of the empty process
  pub nothing_happens : Answers (given []) (header [] 9) [] nothing
  -- a header that names another base
  pub another_base : Answers (given []) (header (printed_datum ∷ []) 9) [] (refused (wrong_base (root (printed_datum ∷ [])) (root [])))
  -- a header that names another base and other prices: the base comes first
  pub base_comes_first : Answers (given []) (record { base = source; source = []; prices = []; limit = 0 }) [] (refused (wrong_base source (root [])))
  -- a header that names another source
  pub another_source : Answers (given []) (record { base = root []; source = []; prices = []; limit = 0 }) [] (refused (wrong_source [] source))
  -- a header that names other prices
  pub other_prices : Answers (given []) (record { base = root []; source = source; prices = []; limit = 0 }) [] (refused (wrong_prices [] (price_digest prices)))
  -- a limit of 0, and one above the greatest
  pub no_limit : Answers (given []) (header [] 0) [] (refused (wrong_limit 0 3145728))
  pub above_the_greatest : Answers (given []) (header [] 3145729) [] (refused (wrong_limit 3145729 3145728))
  -- a step that is not allowed
  pub not_allowed : Answers (given []) (header [] 9) (printing_step ∷ []) (refused (no_run 0))
  -- a step that is made twice
  pub made_twice : Answers (given (printed_datum ∷ [])) (header (printed_datum ∷ []) 9) (printing_step ∷ printing_step ∷ []) (refused (no_run 1))
  -- a step of a built-in receiver prints its value
  pub five_is_printed : Answers (given (printed_datum ∷ [])) (header (printed_datum ∷ []) 9) (printing_step ∷ []) (replayed (record { verdict = done; cost = 3; rows = []; output = 53 ∷ 10 ∷ [] }))
  -- past the limit the limit is charged, the old rows stay and nothing is printed
  pub past_the_limit : Answers (given (printed_datum ∷ [])) (header (printed_datum ∷ []) 2) (printing_step ∷ []) (replayed (record { verdict = exhausted; cost = 2; rows = printed_datum ∷ []; output = [] }))
  -- the second built-in receiver prints its value too, and sends `Nil` on the name that comes with it
  pub five_is_printed_and_answered : Answers (given (datum_with_name ∷ [])) (header (datum_with_name ∷ []) 9) (answering_step ∷ []) (replayed (record { verdict = done; cost = 3; rows = answer_row ∷ []; output = 53 ∷ 10 ∷ [] }))
  -- a step that is still allowed
  pub step_is_left : Answers (given (printed_datum ∷ [])) (header (printed_datum ∷ []) 9) [] (refused (reducible stdout.id ((1 ∷ []) ∷ [])))
  -- of two such steps the least is named
  pub least_step_is_named : Answers (given (second_datum ∷ printed_datum ∷ [])) (header (second_datum ∷ printed_datum ∷ []) 9) [] (refused (reducible stdout.id ((1 ∷ []) ∷ [])))
  -- a source that faults
  pub source_faults : Answers (given_with [] by_zero) (header [] 9) [] (replayed (record { verdict = faulted None fault.DivZero; cost = 0; rows = []; output = [] }))
  -- a step that faults after one that prints: the old rows stay and nothing is printed
  pub second_step_faults : Answers (given (printed_datum ∷ zero_row ∷ failing_row ∷ [])) (header (printed_datum ∷ zero_row ∷ failing_row ∷ []) 9) (printing_step ∷ failing_step ∷ []) (replayed (record { verdict = faulted (Some 1) fault.DivZero; cost = 6; rows = printed_datum ∷ zero_row ∷ failing_row ∷ []; output = [] }))
