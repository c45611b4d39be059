-- Examples of entries, of what shows that they are allowed, and of what they come to.
use Rattle.std.specs.Prelude.{◌≡◌, ℕ, List, [], ◌∷◌, Option, Some, None, codes}
use Rattle.calculus.specs.declared.plain.Kind.TheVariants as kinds
use Rattle.calculus.specs.declared.fault.FaultKind.{FaultKind}
use Rattle.calculus.specs.declared.fault.FaultKind.TheVariants as fault
use Rattle.calculus.specs.Examples.{prices, num, nil, word, the_var, sent, step, first_path_source, first_path_digest, first_path_step, row_of, datum, receiver}
use Rattle.calculus.specs.Shape.{only}
use Rattle.calculus.specs.Log.{Step}
use Rattle.calculus.specs.Outcome.{over, capped}
use Rattle.calculus.specs.Rows.{Row, system_name, stdout}
use Rattle.calculus.specs.Unfolding.{rows_of, unfold_in, unfold_under}
use Rattle.calculus.specs.Seeds.{digest_of, Comm}
use Rattle.calculus.specs.Runs.{source_seed, deploy_of, Deploy, Work, work_products, done, exhausted, faulted}
use Rattle.events.specs.EventExamples.{no_work, the_step}
use Rattle.events.specs.Entries.{Space, first_space, Making, Entry, after, after_all, steps_of, verdict_of, cost_of}
use Rattle.events.specs.Allowed.{MeetsNothing, MakesStep, IsAllowed, AreAllowed, ComesTo}

-- a space of these rows, operations and steps, in which this was printed
abbrev pub space : List Row → List Row → List Step → List ℕ → Space
space rows operations steps text = record { store = rows; pending = operations; made = steps; offered = []; output = text }

-- an entry of an operation that was stored
abbrev pub put_of : Row → Entry
put_of r = record { operation = r; making = None }

-- an entry of an operation that made a step
abbrev pub step_by : Row → Making → Entry
step_by r a = record { operation = r; making = Some a }

-- a step at the price of 10 whose body does nothing, by which these rows leave and this is printed
abbrev pub idle : Step → List (List ℕ) → List ℕ → Making
idle s gone text = record { step = s; gone = gone; offers = []; price = 10; fault = None; line = text }

-- a deploy of `Nil` under a limit of 25
abbrev pub nil_deploy : Deploy
nil_deploy = deploy_of prices 25 [] nil []

-- a datum on the channel of the built-in receiver
abbrev pub printed_datum : Row
printed_datum = row_of (1 ∷ []) (sent (system_name 0) (num 5 ∷ []))

-- the step that prints it
abbrev pub printing_step : Step
printing_step = step stdout.id ((1 ∷ []) ∷ []) 0

-- what entries make of a space; ids are short here
pub record AfterExamples : Type 0 where
  -- an operation is stored, and another one is pending still
  pub put : after (space [] (datum (1 ∷ []) 5 ∷ datum (3 ∷ []) 6 ∷ []) [] []) (put_of (datum (1 ∷ []) 5)) ≡ space (datum (1 ∷ []) 5 ∷ []) (datum (3 ∷ []) 6 ∷ []) [] []
  -- a datum meets a stored receiver, and both leave
  pub datum_meets : after (space (receiver (2 ∷ []) kinds.Linear ∷ []) (datum (1 ∷ []) 5 ∷ []) [] []) (step_by (datum (1 ∷ []) 5) (idle the_step ((2 ∷ []) ∷ (1 ∷ []) ∷ []) [])) ≡ space [] [] (the_step ∷ []) []
  -- a persistent receiver is pending still
  pub persistent_goes_on : after (space (datum (1 ∷ []) 5 ∷ []) (receiver (2 ∷ []) kinds.Persistent ∷ []) [] []) (step_by (receiver (2 ∷ []) kinds.Persistent) (idle the_step ((1 ∷ []) ∷ []) [])) ≡ space [] (receiver (2 ∷ []) kinds.Persistent ∷ []) (the_step ∷ []) []
  -- a datum is printed
  pub prints : after (space [] (printed_datum ∷ []) [] (codes "1\n")) (step_by printed_datum (idle printing_step ((1 ∷ []) ∷ []) (codes "5\n"))) ≡ space [] [] (printing_step ∷ []) (codes "1\n5\n")
  -- only the first of two operations with one id is taken out
  pub equal_ids : after (space [] (datum (1 ∷ []) 5 ∷ datum (1 ∷ []) 6 ∷ []) [] []) (put_of (datum (1 ∷ []) 5)) ≡ space (datum (1 ∷ []) 5 ∷ []) (datum (1 ∷ []) 6 ∷ []) [] []

-- what shows that these entries are allowed
pub record ShownExamples : Type 0 where
  -- a datum is alone in an empty store
  pub alone : MeetsNothing [] (datum (1 ∷ []) 5)
  -- not so beside a receiver on its channel
  pub not_alone : MeetsNothing (receiver (2 ∷ []) kinds.Linear ∷ []) (datum (1 ∷ []) 5) → ⊥
  -- with which it makes a step
  pub datum_meets : MakesStep nil_deploy (receiver (2 ∷ []) kinds.Linear ∷ []) [] (datum (1 ∷ []) 5) (idle the_step ((2 ∷ []) ∷ (1 ∷ []) ∷ []) []) no_work
  -- a persistent receiver makes one with a stored datum
  pub persistent_goes_on : MakesStep nil_deploy (datum (1 ∷ []) 5 ∷ []) [] (receiver (2 ∷ []) kinds.Persistent) (idle the_step ((1 ∷ []) ∷ []) []) no_work
  -- a datum is printed
  pub prints : MakesStep nil_deploy [] [] printed_datum (idle printing_step ((1 ∷ []) ∷ []) (codes "5\n")) no_work

-- a step at this price, with this fault
abbrev pub priced : ℕ → Option FaultKind → Entry
priced n f = step_by (datum (1 ∷ []) 5) (record { step = the_step; gone = []; offers = []; price = n; fault = f; line = [] })

-- verdicts and costs of entries under a limit of 25, after a source that costs nothing
pub record VerdictExamples : Type 0 where
  -- two steps within the limit
  pub done_within : verdict_of nil_deploy no_work (priced 12 None ∷ priced 13 None ∷ []) ≡ done
  -- one more than the limit
  pub past_the_limit : verdict_of nil_deploy no_work (priced 12 None ∷ priced 14 None ∷ []) ≡ exhausted
  -- costs the limit
  pub costs_the_limit : cost_of nil_deploy no_work (priced 12 None ∷ priced 14 None ∷ []) ≡ 25
  -- the first fault counts, and puts are no steps
  pub first_fault : verdict_of nil_deploy no_work (priced 1 None ∷ put_of (datum (1 ∷ []) 5) ∷ priced 2 (Some fault.DivZero) ∷ priced 3 (Some fault.TooBig) ∷ []) ≡ faulted (Some 1) fault.DivZero

-- the work, where it is known
abbrev pub known_work : Option Work → Work
known_work None = over
known_work (Some w) = w

-- the first of these rows
abbrev pub first_row : List Row → Row
first_row [] = row_of [] nil
first_row (r ∷ rs) = r

-- the deploy of `new c in { c!(5) | for (@x <- c) { @"out"!(x) } }` under a limit of 22
abbrev pub first_path : Deploy
first_path = deploy_of prices 22 [] first_path_source first_path_digest

-- what its source comes to
abbrev pub first_path_work : Work
first_path_work = known_work (capped 22 (unfold_in prices 9 first_path_source (source_seed first_path)))

-- the space before its first entry
abbrev pub first_path_start : Space
first_path_start = first_space first_path first_path_work

-- the first operation is stored
abbrev pub first_path_put : Entry
first_path_put = put_of (first_row first_path_start.pending)

-- what the body of its step comes to
abbrev pub first_path_body : Work
first_path_body = known_work (capped 22 (unfold_under (unfold_in prices 9) (digest_of (Comm first_path_step.receiver first_path_step.data_ids 0)) (num 5 ∷ []) (only (sent (word (codes "out")) (the_var 0 ∷ [])))))

-- that step, by which both operations leave
abbrev pub first_path_making : Making
first_path_making = record { step = first_path_step; gone = first_path_step.receiver ∷ first_path_step.data_ids; offers = rows_of (work_products first_path_body); price = 13; fault = None; line = [] }

-- the second operation makes it with the first
abbrev pub first_path_meets : Entry
first_path_meets = step_by (first_row (after first_path_start first_path_put).pending) first_path_making

-- what the body offers is stored
abbrev pub first_path_last : Entry
first_path_last = put_of (first_row (rows_of (work_products first_path_body)))

-- its entries
abbrev pub first_path_entries : List Entry
first_path_entries = first_path_put ∷ first_path_meets ∷ first_path_last ∷ []

-- the second operation is stored too, though it meets the first
abbrev pub first_path_wrong : Entry
first_path_wrong = put_of (first_row (after first_path_start first_path_put).pending)

-- a whole deploy
pub record FirstPathExamples : Type 0 where
  -- its entries are allowed
  pub allowed : AreAllowed first_path first_path_work first_path_entries (after_all first_path_start first_path_entries)
  -- the second operation may not be stored
  pub refused : IsAllowed first_path (after first_path_start first_path_put) first_path_wrong → ⊥
  -- its step is theirs
  pub steps : steps_of first_path_entries ≡ first_path_step ∷ []
  -- nothing is pending after them
  pub nothing_pending : (after_all first_path_start first_path_entries).pending ≡ []
  -- it is done
  pub done : verdict_of first_path first_path_work first_path_entries ≡ done
  -- and costs 2 + 3 + 4 for the source, 10 for the step and 3 for its body
  pub costs : cost_of first_path first_path_work first_path_entries ≡ 22
  -- so they come to a run
  pub comes : ComesTo first_path first_path_work first_path_entries (after_all first_path_start first_path_entries)
