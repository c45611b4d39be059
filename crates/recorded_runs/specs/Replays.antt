-- What is promised of a replay.
use Rattle.std.specs.Prelude.{◌≡◌, ◌⊎◌, ℕ, List, Err, IfOk}
use Rattle.event_log.specs.Reading.{log_of}
use Rattle.event_log.specs.declared.fault.LogFault.{LogFault}
use Rattle.replays.specs.Replays.{Answer, Outcome, replayed}
use Rattle.rho_outside.specs.Causes.{Rose}
use Rattle.rho_outside.specs.Told.{Told}
use Rattle.command_words.specs.Commands.{RunRequest}
use Rattle.input_faults.specs.declared.state_fault.StateFault.{StateFault}
use Rattle.run_inputs.specs.Inputs.{Task, Refusal, accepted_state, accepted_source, accepted_log}
use Rattle.run_inputs.specs.Bases.{IsNoState}
use Rattle.run_inputs.specs.Runnable.{IsRunnable, HasState, OwnsIds}
use Rattle.run_inputs.specs.Refused.{Says, SaysNoState, SaysOf}
use Rattle.run_inputs.specs.Replaying.{IsReplayRefusal, SaysLog}
use Rattle.run_inputs.specs.Ended.{ReplayEnds}
use Rattle.run_status.specs.Endings.{OnRefusal, OnHalt, OnVerdict, HasEnded}
use Rattle.run_status.specs.declared.status.Status.{Status}
use Rattle.run_status.specs.declared.status.Status.TheVariants.{WriteFault, NoMemory}
use Rattle.recorded_runs.specs.Replaying.{IsAnswerTo, HasClash, RefusesStepsAlone, SaysAnswer, IsSettled, ReplayLeaves, ReplayLeavesInPart}
use Rattle.run_reports.specs.World.{World}

-- where the log of these inputs has this answer, a status says it, or memory is wanted, or digests clash, and the status refuses nothing but steps
abbrev pub TellsAnswer : Task × List ℕ → Status → Type 0
TellsAnswer inputs s = (answer : Answer) → IsAnswerTo inputs answer → (s ≡ NoMemory) ⊎ (SaysAnswer answer s ⊎ (HasClash inputs × RefusesStepsAlone s))

-- where the log of these inputs is answered by an outcome, the replay ended with a verdict or memory is wanted, or digests clash
abbrev pub EndsIfRun : Task × List ℕ → Status → Type 0
EndsIfRun inputs s = (outcome : Outcome) → IsAnswerTo inputs (replayed outcome) → HasEnded s ⊎ HasClash inputs

-- the end of a replay from one world to the next has its cause; and where no row of the told state has the id of a built-in receiver, what its files, its state, its source and its log are refused for is said, or the answer to its log
pub record ReplayIsExact (names : RunRequest) (a b : World) (s : Status) : Type 0 where
  pub ends : ReplayEnds IsSettled a.files names a.fetches b.fetches s
  pub exact : Told a.files (λ files. OwnsIds names files → (r : Refusal) → IsReplayRefusal names files r → ¬ (Rose a.fetches b.fetches) → Says r s)
  pub state_exact : Told a.files (λ files. OwnsIds names files → IfOk (accepted_state names files) (λ state. ¬ (Rose a.fetches b.fetches) → (f : StateFault) → IsNoState state f → SaysNoState s))
  pub source_exact : Told a.files (λ files. OwnsIds names files → HasState names files → IfOk (accepted_source names files) (λ task. ¬ (Rose a.fetches b.fetches) → SaysOf task.source s))
  pub log_exact : Told a.files (λ files. OwnsIds names files → HasState names files → IfOk (accepted_log names files) (λ inputs. IsRunnable inputs.0
      → ¬ (Rose a.fetches b.fetches) → (f : LogFault) → log_of inputs.1 ≡ Err f → SaysLog f s))
  pub answer_exact : Told a.files (λ files. OwnsIds names files → HasState names files → IfOk (accepted_log names files) (λ inputs. IsRunnable inputs.0
      → ¬ (Rose a.fetches b.fetches) → TellsAnswer inputs s))

-- a replay from one world to the next: its end is exact; where all is accepted, nothing failed and the log is answered by an outcome it ended, or memory is wanted; a refusal changes nothing; a write fault has its cause; with a verdict all that the replay leaves is there, and where it stopped on its way a part
pub record IsReplay (names : RunRequest) (a b : World) (s : Status) : Type 0 where
  pub is_exact : ReplayIsExact names a b s
  pub complete : Told a.files (λ files. OwnsIds names files → HasState names files → IfOk (accepted_log names files) (λ inputs. IsRunnable inputs.0
      → ¬ (Rose a.fetches b.fetches) → ¬ (Rose a.keeps b.keeps) → ¬ (Rose a.puts b.puts) → EndsIfRun inputs s))
  pub stays : OnRefusal s ((b.files ≡ a.files) × (b.bytes ≡ a.bytes))
  pub write_fault : s ≡ WriteFault → Rose a.keeps b.keeps ⊎ Rose a.puts b.puts
  pub verdict : OnVerdict s (ReplayLeaves s names a b)
  pub part : OnHalt s (ReplayLeavesInPart names a b)
