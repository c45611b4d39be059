-- Which states and sources are run.
use Rattle.std.specs.Prelude.{IsOkAnd, IfOk}
use Rattle.calculus.specs.Tree.{Tree}
use Rattle.run_inputs.specs.Bases.{IsState, HasOwnIds}
use Rattle.sources.specs.Sources.{IsSourceOf}
use Rattle.rho_outside.specs.FileMap.{FileMap}
use Rattle.command_words.specs.Commands.{RunRequest}
use Rattle.run_inputs.specs.Inputs.{Task, accepted_state}

-- the source of a task spells a process that breaks no rule
abbrev pub HasProcess : Task → Type 0
HasProcess task = (t : Tree) × IsSourceOf task.source t

-- a task can be run: its state is one, and its source spells a process
abbrev pub IsRunnable : Task → Type 0
IsRunnable task = IsState task.state × HasProcess task

-- the told state is there, within its size, and is one
abbrev pub HasState : RunRequest → FileMap → Type 0
HasState names files = IsOkAnd (accepted_state names files) IsState

-- if its bytes are there and within their size, they are one
abbrev pub MayHaveState : RunRequest → FileMap → Type 0
MayHaveState names files = IfOk (accepted_state names files) IsState

-- if they are one, none of its rows has the id of a built-in receiver
abbrev pub OwnsIds : RunRequest → FileMap → Type 0
OwnsIds names files = IfOk (accepted_state names files) HasOwnIds
