-- What is promised of a deploy.
use Rattle.std.specs.Prelude.{◌≡◌, ◌⊎◌, ℕ, IfOk}
use Rattle.rho_outside.specs.Causes.{Rose}
use Rattle.rho_outside.specs.Told.{Told}
use Rattle.command_words.specs.Commands.{RunRequest}
use Rattle.input_faults.specs.declared.state_fault.StateFault.{StateFault}
use Rattle.run_inputs.specs.Inputs.{Refusal, accepted_state, accepted}
use Rattle.run_inputs.specs.Bases.{IsNoState}
use Rattle.run_inputs.specs.Runnable.{HasProcess, HasState, OwnsIds}
use Rattle.run_inputs.specs.Refused.{IsRefusal, Says, SaysNoState, SaysOf}
use Rattle.run_inputs.specs.Ended.{DeployEnds}
use Rattle.run_status.specs.Endings.{OnRefusal, OnHalt, OnVerdict, HasEnded}
use Rattle.run_status.specs.declared.status.Status.{Status}
use Rattle.run_status.specs.declared.status.Status.TheVariants.{WriteFault}
use Rattle.recorded_runs.specs.Ends.{Leaves, LeavesInPart}
use Rattle.run_reports.specs.World.{World}

-- the end of a deploy from one world to the next has its cause; and where no row of the told state has the id of a built-in receiver, what its files, its state and its source are refused for is said
pub record DeployIsExact (names : RunRequest) (limit : ℕ) (a b : World) (s : Status) : Type 0 where
  pub ends : DeployEnds a.files names limit a.fetches b.fetches s
  pub exact : Told a.files (λ files. OwnsIds names files → (r : Refusal) → IsRefusal names limit files r → ¬ (Rose a.fetches b.fetches) → Says r s)
  pub state_exact : Told a.files (λ files. OwnsIds names files → IfOk (accepted_state names files) (λ state. ¬ (Rose a.fetches b.fetches) → (f : StateFault) → IsNoState state f → SaysNoState s))
  pub source_exact : Told a.files (λ files. OwnsIds names files → HasState names files → IfOk (accepted names limit files) (λ task. ¬ (Rose a.fetches b.fetches) → SaysOf task.source s))

-- a deploy from one world to the next: its end is exact; where all is accepted and nothing failed the run ended, or memory is wanted; a refusal changes nothing; a write fault has its cause; with a verdict all that the run leaves is there, and where it stopped on its way a part
pub record IsDeploy (names : RunRequest) (limit : ℕ) (a b : World) (s : Status) : Type 0 where
  pub is_exact : DeployIsExact names limit a b s
  pub complete : Told a.files (λ files. OwnsIds names files → HasState names files → IfOk (accepted names limit files) (λ task. HasProcess task
      → ¬ (Rose a.fetches b.fetches) → ¬ (Rose a.keeps b.keeps) → ¬ (Rose a.puts b.puts) → HasEnded s))
  pub stays : OnRefusal s ((b.files ≡ a.files) × (b.bytes ≡ a.bytes))
  pub write_fault : s ≡ WriteFault → Rose a.keeps b.keeps ⊎ Rose a.puts b.puts
  pub verdict : OnVerdict s (Leaves s names limit a b)
  pub part : OnHalt s (LeavesInPart names limit a b)
