-- What a plan of a deploy holds.
use Rattle.std.specs.Prelude.{◌≡◌, ◌≢◌, ◌++◌, ℕ, List, [], ◌∷◌, length}
use Rattle.calculus.specs.Log.{log_text}
use Rattle.calculus.specs.Root.{root}
use Rattle.calculus.specs.Rows.{Row}
use Rattle.events.specs.States.{state_text}
use Rattle.event_log.specs.Laws.{AreSteps}
use Rattle.event_log.specs.View.{header_of as header_in, steps_of}
use Rattle.event_log.specs.declared.log.LogHeader.{LogHeader}
use Rattle.replays.specs.View.{verdict_of}
use Rattle.replays.specs.declared.verdict.Verdict.TheVariants.{Done}
use Rattle.play_outcome.specs.declared.played.Played.{Played}
use Rattle.run_reports.specs.Report.{report_line}
use Rattle.command_words.specs.Commands.{RunRequest}
use Rattle.run_inputs.specs.Inputs.{Task}
use Rattle.recorded_runs.specs.Runs.{Left, bytes_of, header_of, printed, IsLeftBySource}
use Rattle.recorded_runs.specs.declared.deploys.Plan.{Plan}

-- the files of a plan under these names, in the order in which they are kept
abbrev pub planned : RunRequest → Plan → List (List ℕ × List ℕ)
planned names p = (names.log, p.log.items) ∷ (names.next, p.next.items) ∷ []

-- the bytes of a log, of a next state and of what is put that a run of this task left under this limit
pub record IsPlan (limit : ℕ) (task : Task) (p : Plan) : Type 0 where
  pub rows : List Row
  pub left : Left
  pub run : IsLeftBySource rows task limit left
  pub log : p.log.items ≡ log_text (header_of rows task limit) left.steps
  pub next : p.next.items ≡ left.next
  pub bytes : p.bytes.items ≡ bytes_of left
  pub verdict : p.verdict ≡ left.report.verdict

-- the bytes that are made of what was played from a state with this text, with this header of the log
pub record IsMade (text : List ℕ) (header : LogHeader) (o : Played) (p : Plan) : Type 0 where
  pub digest : List ℕ
  pub done : o.verdict ≡ Done → (digest ≡ root o.rows.items) × (p.next.items ≡ state_text o.rows.items)
  pub old : o.verdict ≢ Done → (digest ≡ header.base.0) × (p.next.items ≡ text)
  pub readable : AreSteps (steps_of o.steps.items)
  pub log : p.log.items ≡ log_text (header_in header) (steps_of o.steps.items)
  pub bytes : p.bytes.items ≡ printed (verdict_of o.verdict) o.output.items ++ report_line (record { verdict = o.verdict; cost = o.cost; root = digest; steps = length o.steps.items })
  pub verdict : p.verdict ≡ o.verdict
