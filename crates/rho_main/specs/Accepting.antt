-- What the call that accepts the inputs comes to.
use Rattle.std.specs.Prelude.{◌≡◌, ℕ, List, Option, Some, Ok, ⊤}
use Rattle.command_words.specs.Answers.{answer_of, run_of, workload_of}
use Rattle.command_words.specs.Arguments.{Text}
use Rattle.command_words.specs.Commands.{deploy, replay, workload}
use Rattle.rho_outside.specs.FileMap.{FileMap}
use Rattle.recorded_runs.specs.Fetched.{HasFetched}
use Rattle.run_inputs.specs.Given.{AreAccepted, AreReplayAccepted}
use Rattle.run_inputs.specs.Refused.{RefusedFor}
use Rattle.run_inputs.specs.Replaying.{ReplayRefusedFor}
use Rattle.run_reports.specs.World.{World}
use Rattle.run_status.specs.declared.status.Status.{Status}
use Rattle.run_status.specs.declared.status.Status.TheVariants.{NoMemory}
use Rattle.rho_main.specs.Words.{Answer}
use Rattle.rho_main.specs.declared.accepting.Accepted.{Accepted}
use Rattle.rho_main.specs.declared.accepting.Accepted.TheVariants.{Ended, Deploy, Replay, Workload}

-- the call has ended, and this holds of its status
abbrev pub OnEnded : Accepted → (Status → Type 0) → Type 0
OnEnded (Ended status) P = P status
OnEnded _ P = ⊤

-- a source is to be run, or a log to be replayed, as the words ask, and these are the inputs that this accepts where such files are told
abbrev pub IsReady : Answer → Option FileMap → Accepted → Type 0
IsReady answer told (Ended status) = ⊤
IsReady answer told (Deploy run limit inputs) = (answer ≡ Some (Ok (deploy (run_of run) limit))) × AreAccepted told (run_of run) limit inputs
IsReady answer told (Replay run inputs) = (answer ≡ Some (Ok (replay (run_of run)))) × AreReplayAccepted told (run_of run) inputs
IsReady answer told (Workload request) = answer ≡ Some (Ok (workload (workload_of request)))

-- where the words ask for a deploy or a replay, this status has the cause of a refusal of its inputs, from the counts of failed fetches before and after; of a workload only want of memory is one
abbrev pub InputsRefused : Answer → Option FileMap → ℕ → ℕ → Status → Type 0
InputsRefused (Some (Ok (deploy names limit))) told before now status = RefusedFor told names limit before now status
InputsRefused (Some (Ok (replay names))) told before now status = ReplayRefusedFor told names before now status
InputsRefused (Some (Ok (workload request))) told before now status = status ≡ NoMemory
InputsRefused _ told before now status = ⊤

-- where the words ask for a deploy or a replay, nothing was kept or put from one world to the next, and where they ask for a workload nothing was done
abbrev pub FetchesIn : Answer → World → World → Type 0
FetchesIn (Some (Ok (deploy names limit))) a b = HasFetched a b
FetchesIn (Some (Ok (replay names))) a b = HasFetched a b
FetchesIn (Some (Ok (workload request))) a b = b ≡ a
FetchesIn _ a b = ⊤

-- from one world to the next the inputs were accepted that these words ask for, or the call has ended: where a source or a log is to be run, it is what the words ask for with inputs that are accepted; of a deploy and a replay only their refusals have ended, each with its cause, and in any case nothing was kept or put
pub record IsAccepting (words : List Text) (a b : World) (accepted : Accepted) : Type 0 where
  pub ready : IsReady (answer_of words) a.files accepted
  pub refused : OnEnded accepted (InputsRefused (answer_of words) a.files a.fetches b.fetches)
  pub fetched : FetchesIn (answer_of words) a b
