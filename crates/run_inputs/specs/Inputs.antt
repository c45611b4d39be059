-- What a deploy and a replay make of the files that they are given, before they run.
use Rattle.std.specs.Prelude.{ℕ, nat_le, ◌&&◌, if◌then◌else◌, List, length, Result, Ok, Err, Option, Some, None}
use Rattle.calculus.specs.Limits.{most_limit}
use Rattle.calculus.specs.Outcome.{Prices as PriceTable}
use Rattle.phlo_meter.specs.PriceTable as meter
use Rattle.phlo_meter.specs.PriceTable.{prices_of}
use Rattle.rho_outside.specs.FileMap.{FileMap}
use Rattle.run_status.specs.declared.status.Input.{Input}
use Rattle.run_status.specs.declared.status.Input.TheVariants.{State, Prices, Source, Log}
use Rattle.command_words.specs.Commands.{RunRequest}

-- the greatest number of bytes of an input
abbrev pub size_limit : Input → ℕ
size_limit State = 268435456
size_limit Prices = 65536
size_limit Source = 1048576
size_limit Log = 1073741824

-- the name of an input's file
abbrev pub name_of : RunRequest → Input → List ℕ
name_of names State = names.state
name_of names Prices = names.prices
name_of names Source = names.file
name_of names Log = names.log

-- why files are refused before it is asked what their state, source and log say: one is missing or is too large, the price text gives no prices, or the limit is out of range, the greatest one being this
pub data Refusal : Type 0 where
  missing : Input → Refusal
  too_large : Input → Refusal
  bad_prices : meter.Refusal → Refusal
  bad_limit : ℕ → Refusal

infixl 10 ◌>>=◌
-- one thing and, where it is not refused, the next
abbrev pub ◌>>=◌ : {A B : Type 0} → Result A Refusal → (A → Result B Refusal) → Result B Refusal
(Ok x) >>= f = f x
(Err e) >>= f = Err e

-- a file with at most so many bytes
abbrev pub within : Input → ℕ → Option (List ℕ) → Result (List ℕ) Refusal
within input max None = Err (missing input)
within input max (Some bytes) = if nat_le (length bytes) max then Ok bytes else Err (too_large input)

-- an input's bytes
abbrev pub given : RunRequest → FileMap → Input → Result (List ℕ) Refusal
given names files input = within input (size_limit input) (files (name_of names input))

-- prices, or what a price text is refused for
abbrev pub or_refused : Result PriceTable meter.Refusal → Result PriceTable Refusal
or_refused (Ok prices) = Ok prices
or_refused (Err r) = Err (bad_prices r)

-- the prices that a text gives
abbrev pub priced : List ℕ → Result PriceTable Refusal
priced text = or_refused (prices_of text)

-- a value beside another one, where that is not refused
abbrev pub beside : {A B : Type 0} → A → Result B Refusal → Result (A × B) Refusal
beside x (Ok y) = Ok (x, y)
beside x (Err r) = Err r

-- a state's bytes with prices, where the limit is in range under them
abbrev pub in_range : ℕ → List ℕ × PriceTable → Result (List ℕ × PriceTable) Refusal
in_range limit p = if nat_le 1 limit && nat_le limit (most_limit p.1) then Ok p else Err (bad_limit (most_limit p.1))

-- what is to be run: the bytes of the state that it starts from, the prices, and the bytes of the source
pub record Task : Type 0 where
  pub state : List ℕ
  pub prices : PriceTable
  pub source : List ℕ

-- a source from a state under prices
abbrev pub task_with : List ℕ × PriceTable → Result (List ℕ) Refusal → Result Task Refusal
task_with p (Ok source) = Ok (record { state = p.0; prices = p.1; source = source })
task_with p (Err r) = Err r

-- the state's bytes, or why there are none
abbrev pub accepted_state : RunRequest → FileMap → Result (List ℕ) Refusal
accepted_state names files = given names files State

-- the state's bytes and then the prices
abbrev pub accepted_prices : RunRequest → FileMap → Result (List ℕ × PriceTable) Refusal
accepted_prices names files = accepted_state names files >>= (λ state. beside state (given names files Prices >>= priced))

-- these and then the limit
abbrev pub accepted_limit : RunRequest → ℕ → FileMap → Result (List ℕ × PriceTable) Refusal
accepted_limit names limit files = accepted_prices names files >>= in_range limit

-- these and then the source's bytes: what a deploy is to run
abbrev pub accepted : RunRequest → ℕ → FileMap → Result Task Refusal
accepted names limit files = accepted_limit names limit files >>= (λ p. task_with p (given names files Source))

-- the state's bytes, the prices and then the source's bytes: what a replay is to run
abbrev pub accepted_source : RunRequest → FileMap → Result Task Refusal
accepted_source names files = accepted_prices names files >>= (λ p. task_with p (given names files Source))

-- these and then the log's bytes
abbrev pub accepted_log : RunRequest → FileMap → Result (Task × List ℕ) Refusal
accepted_log names files = accepted_source names files >>= (λ task. beside task (given names files Log))
