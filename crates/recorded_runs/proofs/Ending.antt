-- How a deploy ended, as far as its inputs tell.
use Rattle.std.proofs.Common.{ℕ, Option}
use Rattle.rho_outside.specs.FileMap.{FileMap}
use Rattle.command_words.specs.Commands.{RunRequest}
use Rattle.run_inputs.specs.Given.{task_of, AreAccepted}
use Rattle.run_inputs.specs.Inputs.{accepted}
use Rattle.run_inputs.specs.Runnable.{IsRunnable}
use Rattle.run_inputs.specs.declared.acceptance.Inputs.{Inputs}
use Rattle.run_inputs.specs.Refused.{RefusedFor}
use Rattle.run_inputs.specs.Ended.{IsAccepted, DeployEnds}
use Rattle.run_status.specs.declared.status.Status.{Status}
use Rattle.run_status.specs.declared.status.Status.TheVariants as status
use Rattle.recorded_runs.proofs.Leaving.{ok_and}

module _ (told : Option FileMap) (names : RunRequest) (limit before now : ℕ) where
  -- a refusal has its cause
  pub refused_ends : (s : Status) → RefusedFor told names limit before now s → DeployEnds told names limit before now s
  refused_ends (status.ReadFault i) h = h
  refused_ends (status.TooLarge i n m) h = h
  refused_ends (status.State f) h = h
  refused_ends (status.Prices f) h = h
  refused_ends (status.Limit n m) h = h
  refused_ends (status.Source f) h = h
  refused_ends status.NoMemory h = h
  refused_ends status.Done h = absurd h
  refused_ends status.Exhausted h = absurd h
  refused_ends status.Faulted h = absurd h
  refused_ends status.WriteFault h = absurd h
  refused_ends (status.Usage u) h = absurd h
  refused_ends (status.Log f) h = absurd h
  refused_ends (status.Replay f) h = absurd h

-- what a deploy accepted
pub accepted_in : (told : Option FileMap) (names : RunRequest) (limit : ℕ) (i : Inputs) → AreAccepted told names limit i → IsAccepted told names limit
accepted_in told names limit i a = λ files e. (a.has_state files e, ok_and IsRunnable (accepted names limit files) (task_of i) (a.accepted files e) ((i.base.checkpoint, a.state), (i.term, a.term)))
