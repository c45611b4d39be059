-- What the parts of a workload come to.
use Rattle.std.specs.Prelude.{◌≡◌, ◌≤◌, ℕ, List, [], length, ⊤}
use Rattle.calculus.specs.Form.{IsClosed}
use Rattle.event_log.specs.View.{IsWritable}
use Rattle.recorded_runs.specs.Runs.{IsLeftBySource, Left}
use Rattle.run_inputs.specs.Given.{IsBase, IsGiven}
use Rattle.run_inputs.specs.Inputs.{Task}
use Rattle.run_inputs.specs.declared.acceptance.ReplayInputs.{ReplayInputs}
use Rattle.recorded_runs.specs.Replaying.{IsLeftByReplay, IsSettled}
use Rattle.recorded_runs.specs.declared.replaying.ReplayPlan.{ReplayPlan}
use Rattle.run_reports.specs.Report.{report_line}
use Rattle.run_status.specs.declared.status.Status.{Status}
use Rattle.run_status.specs.declared.status.Status.TheVariants.{NoMemory, Replay}
use Rattle.sources.specs.Sources.{IsSourceOf}
use Rattle.recorded_runs.specs.Left.{IsLeftByWorkload}
use Rattle.recorded_runs.specs.Made.{made_limit, made_log, made_task}
use Rattle.recorded_runs.specs.declared.plans.Work.{Work}

-- these bytes are the text of the log of a play of the made input
pub record IsPlayed (steps : ℕ) (bytes : List ℕ) : Type 0 where
  pub left : Left
  pub play : IsLeftBySource [] (made_task steps) made_limit left
  pub text : bytes ≡ made_log steps left.steps

-- what is replayed: the made input from the empty state, and the log of this text, which may be written
pub record IsMadeReplay (steps : ℕ) (text : List ℕ) (r : ReplayInputs) : Type 0 where
  pub given : IsGiven r (made_task steps, text)
  pub rows : r.inputs.base.checkpoint ≡ []
  pub base : IsBase r.inputs.base
  pub term : IsSourceOf r.inputs.source.items r.inputs.term
  pub closed : IsClosed r.inputs.term
  pub short : length r.inputs.source.items ≤ 1048576
  pub writable : IsWritable r.log

-- a plan has the line of the report of a replay of these inputs, and its verdict
pub record IsReplayed (inputs : Task × List ℕ) (p : ReplayPlan) : Type 0 where
  pub left : Left
  pub replay : IsLeftByReplay inputs left
  pub line : p.line.items ≡ report_line left.report
  pub verdict : p.verdict ≡ left.report.verdict

-- the status of a log of these inputs that is refused, or of want of memory
abbrev pub IsStop : Task × List ℕ → Status → Type 0
IsStop inputs (Replay f) = IsSettled (Replay f) inputs
IsStop inputs NoMemory = ⊤
IsStop inputs _ = ⊥

-- the bytes of a log and of the line of a report that a workload leaves
pub record IsWork (steps : ℕ) (w : Work) : Type 0 where
  pub left : Left
  pub is : IsLeftByWorkload steps left
  pub log : w.log.items ≡ made_log steps left.steps
  pub line : w.line.items ≡ report_line left.report
  pub verdict : w.verdict ≡ left.report.verdict
