-- What a workload leaves.
use Rattle.std.specs.Prelude.{◌≡◌, ◌⊎◌, ℕ, List, [], ◌∷◌}
use Rattle.calculus.specs.Log.{Step}
use Rattle.calculus.specs.Tree.{Tree}
use Rattle.made_input.specs.MadeInput.{made_text}
use Rattle.replays.specs.declared.fault.ReplayFault.{ReplayFault}
use Rattle.rho_outside.specs.Kept.{with_files}
use Rattle.rho_outside.specs.Put.{GrewBy}
use Rattle.recorded_runs.specs.Runs.{IsLeftBySource, Left, ShowsAClash}
use Rattle.recorded_runs.specs.Replaying.{HasClash, IsLeftByReplay, IsSettled}
use Rattle.run_reports.specs.Report.{report_line}
use Rattle.run_reports.specs.Stops.{StopsOnTheWay}
use Rattle.run_reports.specs.World.{World}
use Rattle.run_status.specs.Endings.{status_of}
use Rattle.run_status.specs.declared.status.Status.{Status}
use Rattle.run_status.specs.declared.status.Status.TheVariants.{Replay}
use Rattle.sources.specs.Sources.{IsSourceOf}
use Rattle.recorded_runs.specs.Made.{made_deploy, made_limit, made_log, made_replay, made_task}

-- digests are shown to clash in a play of the made input with these steps: along them, or in some replay of their log
abbrev pub ShowsClash : ℕ → List Step → Type 0
ShowsClash steps ss = ((t : Tree) × (IsSourceOf (made_text steps) t × ShowsAClash (made_deploy steps t) ss)) ⊎ HasClash (made_replay steps ss)

-- the log of a play of the made input is refused with this fault, and digests are shown to clash in that play
pub record IsRefusedPlay (steps : ℕ) (f : ReplayFault) : Type 0 where
  pub left : Left
  pub play : IsLeftBySource [] (made_task steps) made_limit left
  pub refused : IsSettled (Replay f) (made_replay steps left.steps)
  pub clash : ShowsClash steps left.steps

-- what a play left and what a replay left are alike: the report, with its verdict, cost, root and number of steps, the next state and what is printed
pub record AreAlike (played replayed : Left) : Type 0 where
  pub report : played.report ≡ replayed.report
  pub next : played.next ≡ replayed.next
  pub output : played.output ≡ replayed.output

-- what is left is what the replay of the log of a play leaves: the play is one of the made input from the empty state, whose steps are a run of the process that this spells; the log of these steps is replayed under the same; and what the play and the replay left is alike, or digests are shown to clash
pub record IsLeftByWorkload (steps : ℕ) (left : Left) : Type 0 where
  pub played : Left
  pub play : IsLeftBySource [] (made_task steps) made_limit played
  pub same : left.steps ≡ played.steps
  pub replay : IsLeftByReplay (made_replay steps left.steps) left
  pub alike : AreAlike played left ⊎ ShowsClash steps left.steps

-- the file that is kept: the log, under this name
abbrev pub entries_of : List ℕ → ℕ → Left → List (List ℕ × List ℕ)
entries_of log steps left = (log, made_log steps left.steps) ∷ []

-- from one world to the next the log of a workload was kept and the line of its report put, and a status says its verdict
abbrev pub LeavesAll : ℕ → List ℕ → World → World → Status → Type 0
LeavesAll steps log a b s = (left : Left) × (IsLeftByWorkload steps left × ((s ≡ status_of left.report.verdict)
    × ((b.files ≡ with_files (entries_of log steps left) a.files) × GrewBy (report_line left.report) a.bytes b.bytes)))

-- all is as it was, or the writing of what a workload leaves stopped on its way
abbrev pub LeavesInPart : ℕ → List ℕ → World → World → Type 0
LeavesInPart steps log a b = ((b.files ≡ a.files) × (b.bytes ≡ a.bytes)) ⊎ ((left : Left) × (IsLeftByWorkload steps left
    × StopsOnTheWay (entries_of log steps left) (report_line left.report) a b))
