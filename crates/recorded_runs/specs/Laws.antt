-- What the log of a deploy is replayed to. The law stands in the contract of a public function that does nothing.
use Rattle.std.specs.Prelude.{◌≡◌, ◌≤◌, ◌<◌, ◌^◌, ◌⊎◌, ℕ, List, None, Ok}
use Rattle.calculus.specs.Limits.{most_limit}
use Rattle.calculus.specs.Log.{log_text}
use Rattle.calculus.specs.Rows.{Row}
use Rattle.calculus.specs.Tree.{Tree}
use Rattle.replays.specs.Replays.{Outcome, replayed, header_refusal, Answers}
use Rattle.event_log.specs.Reading.{log_of}
use Rattle.sources.specs.Sources.{IsSourceOf}
use Rattle.run_inputs.specs.Inputs.{Task}
use Rattle.recorded_runs.specs.Runs.{Left, header_of, deploy_in, ShowsAClash, IsLeftBySource}
use Rattle.recorded_runs.specs.Replaying.{given_in, IsLeftByOutcome}

-- under the files of a deploy the text of its log is read as its header and steps, its header is right, and it is answered by an outcome with the verdict, the cost, the root, the next state and the output that the deploy left, or digests are shown to clash
pub record IsAnsweredAlike (rows : List Row) (task : Task) (limit : ℕ) (left : Left) : Type 0 where
  pub process : Tree
  pub spelt : IsSourceOf task.source process
  pub read : log_of (log_text (header_of rows task limit) left.steps) ≡ Ok (header_of rows task limit, left.steps)
  pub right : header_refusal (given_in rows task process) (header_of rows task limit) ≡ None
  pub answer : ((outcome : Outcome) × (Answers (given_in rows task process) (header_of rows task limit) left.steps (replayed outcome) × IsLeftByOutcome outcome left))
      ⊎ ShowsAClash (deploy_in rows task limit process) left.steps

-- so is the log of what each deploy leaves under a limit in range, of eight bytes
abbrev pub KeptLogsAreAnswered : Type 0
KeptLogsAreAnswered = (rows : List Row) (task : Task) (limit : ℕ) (left : Left) → 1 ≤ limit → limit ≤ most_limit task.prices → limit < 2 ^ 64
    → IsLeftBySource rows task limit left → IsAnsweredAlike rows task limit left
