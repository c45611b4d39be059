-- What a deploy leaves.
use Rattle.std.specs.Prelude.{◌≡◌, ◌⊎◌, ℕ, List, [], ◌∷◌, IsOkAnd}
use Rattle.calculus.specs.Log.{log_text}
use Rattle.calculus.specs.Rows.{Row}
use Rattle.rho_outside.specs.Put.{GrewBy}
use Rattle.rho_outside.specs.Told.{Told}
use Rattle.rho_outside.specs.Kept.{with_files}
use Rattle.command_words.specs.Commands.{RunRequest}
use Rattle.run_inputs.specs.Inputs.{Task, accepted}
use Rattle.run_reports.specs.Stops.{StopsOnTheWay}
use Rattle.run_reports.specs.World.{World}
use Rattle.run_status.specs.Endings.{status_of}
use Rattle.run_status.specs.declared.status.Status.{Status}
use Rattle.recorded_runs.specs.Runs.{Left, bytes_of, header_of, IsLeftBySource}

-- the files that are kept, in this order
abbrev pub entries_of : RunRequest → List Row → Task → ℕ → Left → List (List ℕ × List ℕ)
entries_of names rows task limit left = (names.log, log_text (header_of rows task limit) left.steps) ∷ (names.next, left.next) ∷ []

-- what was left is what a run of this task's source leaves under this limit, and a status says its verdict
pub record IsLeftBy (rows : List Row) (task : Task) (limit : ℕ) (status : Status) (left : Left) : Type 0 where
  pub run : IsLeftBySource rows task limit left
  pub verdict : status ≡ status_of left.report.verdict

-- from one world to the next a deploy of this task left all that it leaves which ended with this status: all entries were set, and all bytes were put
abbrev pub LeavesAll : Status → RunRequest → ℕ → World → World → Task → Type 0
LeavesAll status names limit a b task = (rows : List Row) × ((left : Left)
    × (IsLeftBy rows task limit status left × ((b.files ≡ with_files (entries_of names rows task limit left) a.files) × GrewBy (bytes_of left) a.bytes b.bytes)))

-- from one world to the next a deploy of this task left what it leaves which stopped on its way
abbrev pub LeavesSome : RunRequest → ℕ → World → World → Task → Type 0
LeavesSome names limit a b task = (rows : List Row) × ((left : Left)
    × (IsLeftBySource rows task limit left × StopsOnTheWay (entries_of names rows task limit left) (bytes_of left) a b))

-- where the first world's files are told, they are accepted, and what is left in the next is all that a deploy leaves
abbrev pub Leaves : Status → RunRequest → ℕ → World → World → Type 0
Leaves status names limit a b = Told a.files (λ files. IsOkAnd (accepted names limit files) (LeavesAll status names limit a b))

-- where the first world's files are told, all is as it was, or they are accepted and some of what a deploy leaves is there
abbrev pub LeavesInPart : RunRequest → ℕ → World → World → Type 0
LeavesInPart names limit a b = Told a.files (λ files.
    ((b.files ≡ a.files) × (b.bytes ≡ a.bytes)) ⊎ IsOkAnd (accepted names limit files) (LeavesSome names limit a b))
