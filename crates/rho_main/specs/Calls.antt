-- What is promised of a call, whatever its words ask for.
use Rattle.std.specs.Prelude.{◌≡◌, List}
use Rattle.command_words.specs.Answers.{answer_of}
use Rattle.command_words.specs.Arguments.{Text}
use Rattle.recorded_runs.specs.Deploys.{IsDeploy}
use Rattle.run_inspects.specs.Inspects.{IsInspect}
use Rattle.recorded_runs.specs.Replays.{IsReplay}
use Rattle.run_reports.specs.World.{World}
use Rattle.run_status.specs.Endings.{OnUsage, SaysUsage}
use Rattle.run_status.specs.declared.status.Status.{Status}
use Rattle.recorded_runs.specs.Workloads.{IsWorkload}
use Rattle.run_inspects.specs.Genesis.{IsGenesis}
use Rattle.rho_main.specs.Words.{Answer, DeployIn, GenesisIn, InspectIn, ReplayIn, WorkloadIn, IsRefusal, IsSaidBy}

-- a call from one world to the next ended with this status, where the words are answered so: the words are refused exactly where the answer is no request, and with that fault, or memory is wanted, and then nothing changes; and each verb was done
pub record IsCallIn (answer : Answer) (a b : World) (s : Status) : Type 0 where
  pub usage : OnUsage s (IsSaidBy answer)
  pub usage_exact : IsRefusal answer → SaysUsage s
  pub usage_stays : IsRefusal answer → (b.files ≡ a.files) × (b.bytes ≡ a.bytes)
  pub genesis : GenesisIn answer (λ name. IsGenesis name a b s)
  pub deploy : DeployIn answer (λ names limit. IsDeploy names limit a b s)
  pub replay : ReplayIn answer (λ names. IsReplay names a b s)
  pub inspect : InspectIn answer (λ name. IsInspect name a b s)
  pub workload : WorkloadIn answer (λ request. IsWorkload request.steps request.log a b s)

-- a call with these words from one world to the next ended with this status, and all was done that is promised of it
abbrev pub IsCall : List Text → World → World → Status → Type 0
IsCall words a b s = IsCallIn (answer_of words) a b s
