-- The made input, as what a play and a replay are given.
use Rattle.std.specs.Prelude.{ℕ, List, []}
use Rattle.calculus.specs.Log.{Header, Step, log_text}
use Rattle.calculus.specs.Outcome.{Prices}
use Rattle.calculus.specs.Runs.{Deploy}
use Rattle.calculus.specs.Tree.{Tree}
use Rattle.made_input.specs.MadeInput.{made_text}
use Rattle.recorded_runs.specs.Runs.{deploy_in, header_of}
use Rattle.run_inputs.specs.Inputs.{Task}
use Rattle.events.specs.States.{state_text}

-- the prices of a workload
abbrev pub made_prices : Prices
made_prices = record { comm = 10; send = 3; receive = 4; name = 2; case = 1; op = 1; byte = 0 }

-- what it may cost
abbrev pub made_limit : ℕ
made_limit = 10485760

-- what is run: the made input of so many steps, from the empty state, under these prices
abbrev pub made_task : ℕ → Task
made_task steps = record { state = state_text []; prices = made_prices; source = made_text steps }

-- the deploy of this process, which the made input spells
abbrev pub made_deploy : ℕ → Tree → Deploy
made_deploy steps t = deploy_in [] (made_task steps) made_limit t

-- what the log of its play names
abbrev pub made_header : ℕ → Header
made_header steps = header_of [] (made_task steps) made_limit

-- the text of the log of these steps
abbrev pub made_log : ℕ → List Step → List ℕ
made_log steps ss = log_text (made_header steps) ss

-- what is replayed: the same, with the log of these steps
abbrev pub made_replay : ℕ → List Step → Task × List ℕ
made_replay steps ss = (made_task steps, made_log steps ss)
