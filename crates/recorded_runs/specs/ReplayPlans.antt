-- What a plan of a replay holds.
use Rattle.std.specs.Prelude.{◌≡◌, ◌≢◌, ◌⊎◌, ◌++◌, ℕ, List, [], ◌∷◌, length, map, Some, None, ⊤}
use Rattle.calculus.specs.Log.{Step, Header}
use Rattle.calculus.specs.Root.{root}
use Rattle.calculus.specs.Rows.{Row}
use Rattle.events.specs.States.{state_text}
use Rattle.replays.specs.Replays.{Given, Refusal, refused, header_refusal, deploy_under, Answers}
use Rattle.event_log.specs.View.{header_of, step_of}
use Rattle.replays.specs.Refusals.{refusal_of}
use Rattle.replays.specs.declared.fault.ReplayFault.{ReplayFault}
use Rattle.replay_answers.specs.Answers.{Clashes}
use Rattle.replay_answers.specs.declared.replayed.Replayed.{Replayed}
use Rattle.replays.specs.View.{verdict_of}
use Rattle.replays.specs.declared.verdict.Verdict.TheVariants.{Done}
use Rattle.command_words.specs.Commands.{RunRequest}
use Rattle.run_inputs.specs.Given.{task_of}
use Rattle.run_inputs.specs.declared.acceptance.ReplayInputs.{ReplayInputs}
use Rattle.run_reports.specs.Report.{report_line}
use Rattle.run_status.specs.declared.status.Status.{Status}
use Rattle.run_status.specs.declared.status.Status.TheVariants as status
use Rattle.recorded_runs.specs.Runs.{Left, bytes_of, printed}
use Rattle.recorded_runs.specs.Replaying.{given_in, IsLeftByAnswer, IsOfSteps}
use Rattle.recorded_runs.specs.declared.replaying.ReplayPlan.{ReplayPlan}

-- the file of a plan under these names
abbrev pub planned_replay : RunRequest → ReplayPlan → List (List ℕ × List ℕ)
planned_replay names p = (names.next, p.next.items) ∷ []

-- what is given to the replay of these inputs from these rows
abbrev pub given_of : List Row → ReplayInputs → Given
given_of rows r = given_in rows (task_of r.inputs) r.inputs.term

-- the header of the log
abbrev pub header_in : ReplayInputs → Header
header_in r = header_of r.log.header

-- the steps of the log
abbrev pub steps_in : ReplayInputs → List Step
steps_in r = map step_of r.log.steps.items

-- the digests of some replay of the log clash
abbrev pub ClashIn : List Row → ReplayInputs → Type 0
ClashIn rows r = Clashes (deploy_under (header_in r).limit (given_of rows r)) (steps_in r)

-- why the log is refused, from these rows: this is the answer to it; or its header is right, digests clash, and the fault is one of its steps
pub record IsRefusedBy (rows : List Row) (f : ReplayFault) (r : ReplayInputs) : Type 0 where
  pub refusal : Refusal
  pub is : refusal_of f ≡ Some refusal
  pub answer : Answers (given_of rows r) (header_in r) (steps_in r) (refused refusal)
      ⊎ ((header_refusal (given_of rows r) (header_in r) ≡ None) × (ClashIn rows r × IsOfSteps f))

-- the status of a log that is refused, or of want of memory
abbrev pub IsReplayStop : List Row → ReplayInputs → Status → Type 0
IsReplayStop rows r (status.Replay f) = IsRefusedBy rows f r
IsReplayStop rows r status.NoMemory = ⊤
IsReplayStop rows r _ = ⊥

-- the bytes of a next state, those that are put and those of the report's line that a replay of these inputs left, from these rows
pub record IsReplayPlan (rows : List Row) (r : ReplayInputs) (p : ReplayPlan) : Type 0 where
  pub left : Left
  pub steps_are : left.steps ≡ steps_in r
  pub right : header_refusal (given_of rows r) (header_in r) ≡ None
  pub answer : IsLeftByAnswer (given_of rows r) (header_in r) left
  pub steps : left.report.steps ≡ length left.steps
  pub old : left.report.verdict ≢ Done → left.next ≡ r.inputs.base.text.items
  pub silent : left.report.verdict ≢ Done → left.output ≡ []
  pub next : p.next.items ≡ left.next
  pub bytes : p.bytes.items ≡ bytes_of left
  pub line : p.line.items ≡ report_line left.report
  pub verdict : p.verdict ≡ left.report.verdict

-- the bytes that are made of what the replay of a log of so many steps came to, from a state with this text and this root
pub record IsPlanned (text base : List ℕ) (count : ℕ) (x : Replayed) (p : ReplayPlan) : Type 0 where
  pub digest : List ℕ
  pub done : x.verdict ≡ Done → (digest ≡ root x.rows.items) × (p.next.items ≡ state_text x.rows.items)
  pub old : x.verdict ≢ Done → (digest ≡ base) × (p.next.items ≡ text)
  pub bytes : p.bytes.items ≡ printed (verdict_of x.verdict) x.output.items ++ report_line (record { verdict = x.verdict; cost = x.cost; root = digest; steps = count })
  pub line : p.line.items ≡ report_line (record { verdict = x.verdict; cost = x.cost; root = digest; steps = count })
  pub verdict : p.verdict ≡ x.verdict
