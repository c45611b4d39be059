-- What a run of a source leaves.
use Rattle.std.specs.Prelude.{◌≡◌, ◌≢◌, ◌⊎◌, ◌≤◌, ℕ, List, [], ◌∷◌, ◌++◌, length}
use Rattle.sha2.specs.Sha256.{sha256}
use Rattle.calculus.specs.Tree.{Tree}
use Rattle.calculus.specs.Limits.{price_digest}
use Rattle.calculus.specs.Log.{Step, Header}
use Rattle.calculus.specs.Rows.{Row}
use Rattle.calculus.specs.Root.{root}
use Rattle.calculus.specs.Runs.{Deploy, deploy_of, State, IsRun, Verdict, done, verdict, cost, next_rows}
use Rattle.events.specs.States.{state_text}
use Rattle.event_log.specs.Laws.{AreSteps}
use Rattle.sources.specs.Sources.{IsSourceOf}
use Rattle.events.specs.Spending.{IsSpentBy}
use Rattle.events.specs.Premises.{Collides}
use Rattle.events.specs.Allowed.{ShowsAnId}
use Rattle.replays.specs.View.{verdict_of}
use Rattle.replays.specs.declared.verdict.Verdict.TheVariants as ending
use Rattle.run_inputs.specs.Inputs.{Task}
use Rattle.run_inputs.specs.Bases.{IsStateOf}
use Rattle.run_reports.specs.Report.{Report, report_line}

-- what a run leaves: the steps of its log, the next state's bytes, what it prints, and a report
pub record Left : Type 0 where
  pub steps : List Step
  pub next : List ℕ
  pub output : List ℕ
  pub report : Report

-- the bytes that are put, in one piece: what is printed, and then the line of the report
abbrev pub bytes_of : Left → List ℕ
bytes_of left = left.output ++ report_line left.report

-- the deploy of this process, which the source of a task spells, from the rows of its state
abbrev pub deploy_in : List Row → Task → ℕ → Tree → Deploy
deploy_in rows task limit t = deploy_of task.prices limit rows t (sha256 task.source)

-- what the log of a deploy from these rows under this limit names: their root, the digests of the source and the prices, and the limit
abbrev pub header_of : List Row → Task → ℕ → Header
header_of rows task limit = record { base = root rows; source = sha256 task.source; prices = price_digest task.prices; limit = limit }

-- along these steps no id is spent by two of them: none of a datum that is taken without a peek and is not persistent, and none of a receiver that is linear or peeks
abbrev pub SpendsOnce : Deploy → List Step → Type 0
SpendsOnce deploy ss = (before between after : List Step) (s u : Step) (id : List ℕ)
    → ss ≡ before ++ s ∷ (between ++ u ∷ after) → IsSpentBy deploy before s id → IsSpentBy deploy (before ++ s ∷ between) u id → ⊥

-- what is printed with this verdict, where the steps print this: all of it where the run is done, and else nothing
abbrev pub printed : Verdict → List ℕ → List ℕ
printed done output = output
printed _ output = []

-- what is left is what a run of this deploy leaves: the steps are a run, along which no id is spent twice; the report says its verdict, its cost and the root of the rows that it leaves; the next state is the text of these rows; and its output is printed where it is done
pub record IsLeftByRun (deploy : Deploy) (left : Left) : Type 0 where
  pub state : State
  pub run : IsRun deploy left.steps state
  pub once : SpendsOnce deploy left.steps
  pub verdict_is : verdict_of left.report.verdict ≡ verdict deploy.prices deploy.limit state
  pub cost_is : left.report.cost ≡ cost deploy.prices deploy.limit state
  pub root_is : left.report.root ≡ root (next_rows deploy.rows (verdict deploy.prices deploy.limit state) state.bag)
  pub next_is : left.next ≡ state_text (next_rows deploy.rows (verdict deploy.prices deploy.limit state) state.bag)
  pub output_is : left.output ≡ printed (verdict deploy.prices deploy.limit state) state.output

-- an id of the rows that a deploy begins with is a built-in receiver's or made again along these steps, or two of the texts that it hashes with them have one digest
abbrev pub ShowsAClash : Deploy → List Step → Type 0
ShowsAClash deploy ss = ShowsAnId deploy ss ⊎ Collides deploy ss

-- what is left is what a run leaves of the process that the source of a task spells, from the rows of its state, or digests are shown to clash. In either case the log is no longer than a log may be, each of its steps fits a log's text; the report counts its steps; and with another verdict than done the next state is the old one and nothing is printed
pub record IsLeftBySource (rows : List Row) (task : Task) (limit : ℕ) (left : Left) : Type 0 where
  pub state : IsStateOf task.state rows
  pub process : Tree
  pub spelt : IsSourceOf task.source process
  pub run : IsLeftByRun (deploy_in rows task limit process) left ⊎ ShowsAClash (deploy_in rows task limit process) left.steps
  pub few : length left.steps ≤ 1048608
  pub readable : AreSteps left.steps
  pub steps : left.report.steps ≡ length left.steps
  pub old : left.report.verdict ≢ ending.Done → left.next ≡ task.state
  pub silent : left.report.verdict ≢ ending.Done → left.output ≡ []
