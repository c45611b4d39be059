-- What a deploy and a replay were given.
use Rattle.std.specs.Prelude.{◌≡◌, ◌≤◌, ℕ, List, length, map, IsOkAnd, Ok, Err, Option, ⊤}
use Rattle.calculus.specs.Form.{IsClosed}
use Rattle.calculus.specs.Limits.{most_limit}
use Rattle.event_log.specs.Reading.{log_of}
use Rattle.event_log.specs.View.{header_of, step_of, IsWritable}
use Rattle.rho_outside.specs.FileMap.{FileMap}
use Rattle.rho_outside.specs.Told.{Told}
use Rattle.sources.specs.Sources.{IsSourceOf}
use Rattle.command_words.specs.Commands.{RunRequest}
use Rattle.run_inputs.specs.Inputs.{Task, accepted, accepted_log}
use Rattle.run_inputs.specs.Runnable.{HasState}
use Rattle.run_inputs.specs.Bases.{IsStateOf}
use Rattle.run_inputs.specs.declared.acceptance.Inputs.{Inputs}
use Rattle.run_inputs.specs.declared.acceptance.ReplayInputs.{ReplayInputs}
use Rattle.run_inputs.specs.declared.fetch.Base.{Base}
use Rattle.run_status.specs.declared.status.Status.{Status}
use Rattle.run_status.specs.declared.status.Status.TheVariants as status

-- the text is that of the state of these rows
abbrev pub IsBase : Base → Type 0
IsBase b = IsStateOf b.text.items b.checkpoint

-- what is to be run of these inputs
abbrev pub task_of : Inputs → Task
task_of i = record { state = i.base.text.items; prices = i.prices; source = i.source.items }

-- this is what is to be run, and these are the bytes of the log
pub record IsGiven (r : ReplayInputs) (inputs : Task × List ℕ) : Type 0 where
  pub task : inputs.0 ≡ task_of r.inputs
  pub log : log_of inputs.1 ≡ Ok (header_of r.log.header, map step_of r.log.steps.items)

-- these are the inputs that a deploy with this limit accepts: where files are told, they give just this; the text is that of the state of these rows, the source spells the term, which is closed, and the limit is in range under the prices
pub record AreAccepted (told : Option FileMap) (names : RunRequest) (limit : ℕ) (i : Inputs) : Type 0 where
  pub accepted : Told told (λ files. accepted names limit files ≡ Ok (task_of i))
  pub has_state : Told told (HasState names)
  pub state : IsBase i.base
  pub term : IsSourceOf i.source.items i.term
  pub closed : IsClosed i.term
  pub in_range : limit ≤ most_limit i.prices
  pub short : length i.source.items ≤ 1048576

-- these are the inputs that a replay accepts: the same without a limit, and the log is read, and may be written
pub record AreReplayAccepted (told : Option FileMap) (names : RunRequest) (r : ReplayInputs) : Type 0 where
  pub accepted : Told told (λ files. IsOkAnd (accepted_log names files) (IsGiven r))
  pub has_state : Told told (HasState names)
  pub state : IsBase r.inputs.base
  pub term : IsSourceOf r.inputs.source.items r.inputs.term
  pub closed : IsClosed r.inputs.term
  pub short : length r.inputs.source.items ≤ 1048576
  pub writable : IsWritable r.log

-- why the bytes of a log are refused
abbrev pub LogCause : List ℕ → Status → Type 0
LogCause bytes (status.Log f) = log_of bytes ≡ Err f
LogCause bytes status.NoMemory = ⊤
LogCause bytes _ = ⊥
