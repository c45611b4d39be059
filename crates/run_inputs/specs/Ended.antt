-- How a deploy and a replay ended, as far as their inputs tell.
use Rattle.std.specs.Prelude.{ℕ, List, IsOk, IsOkAnd, Option}
use Rattle.event_log.specs.Reading.{log_of}
use Rattle.rho_outside.specs.FileMap.{FileMap}
use Rattle.rho_outside.specs.Told.{Told}
use Rattle.command_words.specs.Commands.{RunRequest}
use Rattle.run_inputs.specs.Inputs.{Task, accepted, accepted_log}
use Rattle.run_inputs.specs.Runnable.{IsRunnable, HasState}
use Rattle.run_inputs.specs.Refused.{RefusedFor}
use Rattle.run_inputs.specs.Replaying.{ReplayRefusedFor}
use Rattle.run_status.specs.declared.status.Status.{Status}
use Rattle.run_status.specs.declared.status.Status.TheVariants as status

-- where files are told, a deploy with this limit accepts them, and its source can be run
abbrev pub IsAccepted : Option FileMap → RunRequest → ℕ → Type 0
IsAccepted told names limit = Told told (λ files. HasState names files × IsOkAnd (accepted names limit files) IsRunnable)

-- a deploy ended so: with a verdict or a failed write all was accepted, and else there is a cause, from the counts of failed fetches before and after
abbrev pub DeployEnds : Option FileMap → RunRequest → ℕ → ℕ → ℕ → Status → Type 0
DeployEnds told names limit before now status.Done = IsAccepted told names limit
DeployEnds told names limit before now status.Exhausted = IsAccepted told names limit
DeployEnds told names limit before now status.Faulted = IsAccepted told names limit
DeployEnds told names limit before now status.WriteFault = IsAccepted told names limit
DeployEnds told names limit before now s = RefusedFor told names limit before now s

-- what is to be run and the bytes of a log: the source can be run, the log is read, and more
pub record IsReplayable (More : Task × List ℕ → Type 0) (inputs : Task × List ℕ) : Type 0 where
  pub run : IsRunnable inputs.0
  pub read : IsOk (log_of inputs.1)
  pub more : More inputs

-- where files are told, a replay accepts them, its log is read, and more is known of them
abbrev pub IsReplayAccepted : (Task × List ℕ → Type 0) → Option FileMap → RunRequest → Type 0
IsReplayAccepted More told names = Told told (λ files. HasState names files × IsOkAnd (accepted_log names files) (IsReplayable More))

-- a replay ended so: with a verdict, a failed write or a log that is refused all was accepted, and this is known of it with that status; and else there is a cause
abbrev pub ReplayEnds : (Status → Task × List ℕ → Type 0) → Option FileMap → RunRequest → ℕ → ℕ → Status → Type 0
ReplayEnds More told names before now status.Done = IsReplayAccepted (More status.Done) told names
ReplayEnds More told names before now status.Exhausted = IsReplayAccepted (More status.Exhausted) told names
ReplayEnds More told names before now status.Faulted = IsReplayAccepted (More status.Faulted) told names
ReplayEnds More told names before now status.WriteFault = IsReplayAccepted (More status.WriteFault) told names
ReplayEnds More told names before now (status.Replay f) = IsReplayAccepted (More (status.Replay f)) told names
ReplayEnds More told names before now s = ReplayRefusedFor told names before now s
