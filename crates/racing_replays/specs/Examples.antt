-- Examples of replays by many workers.
use Rattle.std.specs.Prelude.{◌≡◌, ℕ, false, List, [], ◌∷◌, Some, map as each, option_map}
use Rattle.calculus.specs.declared.plain.Kind.TheVariants as kinds
use Rattle.calculus.specs.Log.{Step}
use Rattle.calculus.specs.Rows.{Row, system_name, stdout, stdout_ack}
use Rattle.calculus.specs.Steps.{Bag, stored_rows}
use Rattle.calculus.specs.Examples.{nil, num, sent, step, row_of, datum, receiver, bag}
use Rattle.calculus.specs.Outcome.{within, pure}
use Rattle.calculus.specs.Unfolding.{a_row}
use Rattle.calculus.specs.Runs.{Deploy, deploy_of, Work}
use Rattle.events.specs.EventExamples.{no_prices, no_work}
use Rattle.racing_replays.specs.Replaying.{Replay, ids_of, Replays, is_due, walk}
use Rattle.racing_replays.specs.Laws.{state_of, logged_state, FreshWalk}
use Rattle.racing_replays.specs.Counted.{uses}
use Rattle.racing_replays.specs.Racing.{RacingState, Races}

-- a deploy from these rows, at no price
abbrev pub the_deploy : List Row → Deploy
the_deploy rows = deploy_of no_prices 9 rows nil []

-- what is done, and the ids of the rows that are left
abbrev pub outcome : Replay → List ℕ × List (List ℕ)
outcome r = (each (λ d. d.index) r.done, ids_of (stored_rows r.bag))

-- the data 1 and 3, the persistent receiver 2 and the linear receiver 4, on one channel
abbrev pub the_rows : List Row
the_rows = datum (1 ∷ []) 5 ∷ datum (3 ∷ []) 6 ∷ receiver (2 ∷ []) kinds.Persistent ∷ receiver (4 ∷ []) kinds.Linear ∷ []

-- their bag
abbrev pub the_bag : Bag
the_bag = bag the_rows

-- the linear receiver takes the datum 3, then the persistent one would take it too, which is not allowed, and then it takes the datum 1
abbrev pub the_log : List Step
the_log = step (4 ∷ []) ((3 ∷ []) ∷ []) 0 ∷ step (2 ∷ []) ((3 ∷ []) ∷ []) 0 ∷ step (2 ∷ []) ((1 ∷ []) ∷ []) 0 ∷ []

-- the linear receiver takes the datum 3, and the persistent one the datum 1: the two steps share no row
abbrev pub steps_apart : List Step
steps_apart = step (4 ∷ []) ((3 ∷ []) ∷ []) 0 ∷ step (2 ∷ []) ((1 ∷ []) ∷ []) 0 ∷ []

-- a source that offers the data 1 and 3
abbrev pub the_source : Work
the_source = within (pure (a_row (datum (1 ∷ []) 5) ∷ a_row (datum (3 ∷ []) 6) ∷ []))

-- the persistent receiver takes the one and then the other
abbrev pub both_steps : List Step
both_steps = step (2 ∷ []) ((1 ∷ []) ∷ []) 0 ∷ step (2 ∷ []) ((3 ∷ []) ∷ []) 0 ∷ []

-- a datum 5 on the name behind `rho:io:stdout`, and a datum 6 with the name `@7` on the one behind `rho:io:stdoutAck`
abbrev pub printed_rows : List Row
printed_rows = row_of (1 ∷ []) (sent (system_name 0) (num 5 ∷ [])) ∷ row_of (2 ∷ []) (sent (system_name 1) (num 6 ∷ num 7 ∷ [])) ∷ []

-- the two built-in receivers take them
abbrev pub printing_steps : List Step
printing_steps = step stdout.id ((1 ∷ []) ∷ []) 0 ∷ step stdout_ack.id ((2 ∷ []) ∷ []) 0 ∷ []

-- what a replay of these printed, in the order in which it was done and in the order of the log
abbrev pub outputs : Replay → List ℕ × List ℕ
outputs r = ((state_of no_work r).output, (logged_state no_work printing_steps r).output)

-- what is done, and what is to be tried
abbrev pub progress : RacingState → List ℕ × List ℕ
progress c = (each (λ d. d.index) c.done, c.tries)

-- what walks do, and a replay in another order
pub record ReplayExamples : Type 0 where
  -- a step that is not allowed is left out, and so is one behind it that names its receiver
  pub left_out : option_map outcome (walk no_prices 9 1 the_bag the_log) ≡ Some (0 ∷ [], (1 ∷ []) ∷ (2 ∷ []) ∷ [])
  -- a step that names rows which are there, but on different channels, is left out
  pub not_by_ids : option_map outcome (walk no_prices 9 1 (bag (row_of (1 ∷ []) (sent (num 2) (num 5 ∷ [])) ∷ receiver (2 ∷ []) kinds.Linear ∷ [])) (step (2 ∷ []) ((1 ∷ []) ∷ []) 0 ∷ [])) ≡ Some ([], (1 ∷ []) ∷ (2 ∷ []) ∷ [])
  -- both steps are done
  pub both_done : option_map outcome (walk no_prices 9 1 the_bag steps_apart) ≡ Some (0 ∷ 1 ∷ [], (2 ∷ []) ∷ [])
  -- and so they are in the other order
  pub other_order : (r : Replay) × (Replays no_prices 9 the_bag steps_apart r × outcome r ≡ (1 ∷ 0 ∷ [], (2 ∷ []) ∷ []))
  -- what is printed in the other order is told in the order of the log
  pub told_in_order : (r : Replay) × (Replays no_prices 9 (bag printed_rows) printing_steps r × outputs r ≡ (54 ∷ 10 ∷ 53 ∷ 10 ∷ [], 53 ∷ 10 ∷ 54 ∷ 10 ∷ []))
  -- a step waits for one before it in the log that names one of its rows
  pub waits : is_due the_bag [] (step (4 ∷ []) ((3 ∷ []) ∷ []) 0 ∷ []) (step (2 ∷ []) ((3 ∷ []) ∷ []) 0) ≡ false
  -- a step may not take what a later step offered, though it is there
  pub not_early : is_due the_bag (record { index = 1; step = step (2 ∷ []) ((1 ∷ []) ∷ []) 0; work = within (pure (a_row (datum (7 ∷ []) 5) ∷ [])); printed = [] } ∷ []) [] (step (4 ∷ []) ((7 ∷ []) ∷ []) 0) ≡ false
  -- the steps of the log that name the persistent receiver
  pub uses_of_a_row : uses (2 ∷ []) 0 the_log ≡ 1 ∷ 2 ∷ []
  -- such a walk's digests can be fresh
  pub fresh : (k : Replay) × FreshWalk (the_deploy the_rows) no_work the_log k
  -- a worker brings the datum 1, whose use is tried then and is done; the receiver's next use is to be tried
  pub events : (c : RacingState) × (Races (the_deploy (receiver (2 ∷ []) kinds.Persistent ∷ [])) the_source both_steps c × progress c ≡ (0 ∷ [], 1 ∷ []))
