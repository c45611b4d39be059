-- The answer to a log, and what its replay leaves.
use Rattle.std.specs.Prelude.{◌≡◌, ◌≢◌, ◌⊎◌, ℕ, List, [], ◌∷◌, length, Ok, IsOkAnd, Some, None, ⊤}
use Rattle.sha2.specs.Sha256.{sha256}
use Rattle.calculus.specs.Tree.{Tree}
use Rattle.calculus.specs.Log.{Header, Step}
use Rattle.calculus.specs.Root.{root}
use Rattle.calculus.specs.Rows.{Row}
use Rattle.calculus.specs.Runs.{Verdict, done, exhausted, faulted}
use Rattle.events.specs.States.{state_text}
use Rattle.replays.specs.Replays.{Given, Outcome, Answer, refused, replayed, header_refusal, deploy_under, Answers}
use Rattle.event_log.specs.Reading.{log_of}
use Rattle.sources.specs.Sources.{IsSourceOf}
use Rattle.replays.specs.View.{verdict_of}
use Rattle.replays.specs.declared.verdict.Verdict.TheVariants as ending
use Rattle.replays.specs.Refusals.{refusal_of}
use Rattle.replays.specs.declared.fault.ReplayFault.{ReplayFault}
use Rattle.replays.specs.declared.fault.ReplayFault.TheVariants.{NoRun, Reducible}
use Rattle.replay_answers.specs.Answers.{Clashes}
use Rattle.replay_answers.specs.Bases.{asked}
use Rattle.rho_outside.specs.Told.{Told}
use Rattle.rho_outside.specs.Put.{GrewBy}
use Rattle.rho_outside.specs.Kept.{with_files}
use Rattle.command_words.specs.Commands.{RunRequest}
use Rattle.run_inputs.specs.Inputs.{Task, accepted_log}
use Rattle.run_inputs.specs.Bases.{IsStateOf}
use Rattle.run_reports.specs.Stops.{StopsOnTheWay}
use Rattle.run_reports.specs.World.{World}
use Rattle.run_status.specs.Endings.{status_of}
use Rattle.run_status.specs.declared.status.Status.{Status}
use Rattle.run_status.specs.declared.status.Status.TheVariants as status
use Rattle.recorded_runs.specs.Runs.{Left, bytes_of}

-- what is given to the replay of a log: the rows of the state, the process, the digest of the source and the prices
abbrev pub given_in : List Row → Task → Tree → Given
given_in rows task t = asked rows t (sha256 task.source) task.prices

-- these inputs are read as this: the rows of the state, the process of the source, and the header and the steps of the log
pub record AreReadAs (inputs : Task × List ℕ) (rows : List Row) (t : Tree) (header : Header) (steps : List Step) : Type 0 where
  pub state : IsStateOf inputs.0.state rows
  pub spelt : IsSourceOf inputs.0.source t
  pub log : log_of inputs.1 ≡ Ok (header, steps)

-- this is the answer to the log of these inputs
pub record IsAnswerTo (inputs : Task × List ℕ) (answer : Answer) : Type 0 where
  pub rows : List Row
  pub process : Tree
  pub header : Header
  pub steps : List Step
  pub read : AreReadAs inputs rows process header steps
  pub is : Answers (given_in rows inputs.0 process) header steps answer

-- the header of their log is right, and the digests of some replay of it clash
pub record HasClash (inputs : Task × List ℕ) : Type 0 where
  pub rows : List Row
  pub process : Tree
  pub header : Header
  pub steps : List Step
  pub read : AreReadAs inputs rows process header steps
  pub right : header_refusal (given_in rows inputs.0 process) header ≡ None
  pub clash : Clashes (deploy_under header.limit (given_in rows inputs.0 process)) steps

-- the status that a verdict of the calculus gives
abbrev pub status_for : Verdict → Status
status_for done = status.Done
status_for exhausted = status.Exhausted
status_for (faulted step kind) = status.Faulted

-- a status says this answer: its refusal, or its verdict; a failed write may stand in the place of a verdict
abbrev pub SaysAnswer : Answer → Status → Type 0
SaysAnswer (refused r) (status.Replay f) = refusal_of f ≡ Some r
SaysAnswer (refused r) _ = ⊥
SaysAnswer (replayed o) status.WriteFault = ⊤
SaysAnswer (replayed o) s = s ≡ status_for o.verdict

-- a fault of a log's steps: neither one of its header nor want of memory
abbrev pub IsOfSteps : ReplayFault → Type 0
IsOfSteps (NoRun step) = ⊤
IsOfSteps (Reducible cont taken) = ⊤
IsOfSteps _ = ⊥

-- a status that refuses a log refuses its steps, and not its header
abbrev pub RefusesStepsAlone : Status → Type 0
RefusesStepsAlone (status.Replay f) = IsOfSteps f
RefusesStepsAlone _ = ⊤

-- the answer to the log of these inputs is one that a status says; or digests clash, and the status refuses nothing but steps
abbrev pub IsSettled : Status → Task × List ℕ → Type 0
IsSettled s inputs = ((answer : Answer) × (SaysAnswer answer s × IsAnswerTo inputs answer)) ⊎ (HasClash inputs × RefusesStepsAlone s)

-- what is left is what a replayed run came to: its verdict, its cost, the root of the rows that it leaves, whose text is the next state, and its output
pub record IsLeftByOutcome (outcome : Outcome) (left : Left) : Type 0 where
  pub verdict_is : verdict_of left.report.verdict ≡ outcome.verdict
  pub cost_is : left.report.cost ≡ outcome.cost
  pub root_is : left.report.root ≡ root outcome.rows
  pub next_is : left.next ≡ state_text outcome.rows
  pub output_is : left.output ≡ outcome.output

-- what is left is what the answer to a log came to, or digests clash
abbrev pub IsLeftByAnswer : Given → Header → Left → Type 0
IsLeftByAnswer given header left = ((outcome : Outcome) × (Answers given header left.steps (replayed outcome) × IsLeftByOutcome outcome left))
    ⊎ Clashes (deploy_under header.limit given) left.steps

-- what is left is what the replay of the log of these inputs came to: its header is right, and what is left is what its answer came to, or digests clash. In either case the report counts the log's steps, and with another verdict than done the next state is the old one and nothing is printed
pub record IsLeftByReplay (inputs : Task × List ℕ) (left : Left) : Type 0 where
  pub rows : List Row
  pub process : Tree
  pub header : Header
  pub read : AreReadAs inputs rows process header left.steps
  pub right : header_refusal (given_in rows inputs.0 process) header ≡ None
  pub answer : IsLeftByAnswer (given_in rows inputs.0 process) header left
  pub steps : left.report.steps ≡ length left.steps
  pub old : left.report.verdict ≢ ending.Done → left.next ≡ inputs.0.state
  pub silent : left.report.verdict ≢ ending.Done → left.output ≡ []

-- the file that is kept
abbrev pub replay_entries : RunRequest → Left → List (List ℕ × List ℕ)
replay_entries names left = (names.next, left.next) ∷ []

-- what was left is what the replay came to, and a status says its verdict
pub record IsReplayedBy (s : Status) (inputs : Task × List ℕ) (left : Left) : Type 0 where
  pub replay : IsLeftByReplay inputs left
  pub verdict : s ≡ status_of left.report.verdict

-- from one world to the next a replay left all that it leaves which ended with this status: the entry was set, and all bytes were put
abbrev pub ReplayLeavesAll : Status → RunRequest → World → World → Task × List ℕ → Type 0
ReplayLeavesAll s names a b inputs = (left : Left)
    × (IsReplayedBy s inputs left × ((b.files ≡ with_files (replay_entries names left) a.files) × GrewBy (bytes_of left) a.bytes b.bytes))

-- from one world to the next a replay left what it leaves which stopped on its way
abbrev pub ReplayLeavesSome : RunRequest → World → World → Task × List ℕ → Type 0
ReplayLeavesSome names a b inputs = (left : Left)
    × (IsLeftByReplay inputs left × StopsOnTheWay (replay_entries names left) (bytes_of left) a b)

-- where the first world's files are told, they are accepted, and what is left in the next is all that a replay leaves
abbrev pub ReplayLeaves : Status → RunRequest → World → World → Type 0
ReplayLeaves s names a b = Told a.files (λ files. IsOkAnd (accepted_log names files) (ReplayLeavesAll s names a b))

-- where the first world's files are told, all is as it was, or they are accepted and some of what a replay leaves is there
abbrev pub ReplayLeavesInPart : RunRequest → World → World → Type 0
ReplayLeavesInPart names a b = Told a.files (λ files.
    ((b.files ≡ a.files) × (b.bytes ≡ a.bytes)) ⊎ IsOkAnd (accepted_log names files) (ReplayLeavesSome names a b))
