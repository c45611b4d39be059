-- How a run whose inputs were accepted may end.
use Rattle.std.specs.Prelude.{⊤}
use Rattle.run_status.specs.Endings.{HasEnded}
use Rattle.run_status.specs.declared.status.Status.{Status}
use Rattle.run_status.specs.declared.status.Status.TheVariants.{WriteFault, Replay}

-- a deploy of accepted inputs ended with a verdict, or a write failed, or memory is wanted: none of its inputs is refused any more
abbrev pub HasDeployed : Status → Type 0
HasDeployed WriteFault = ⊤
HasDeployed status = HasEnded status

-- a replay of accepted inputs ended so, or its log is no run
abbrev pub HasReplayed : Status → Type 0
HasReplayed (Replay fault) = ⊤
HasReplayed status = HasDeployed status
