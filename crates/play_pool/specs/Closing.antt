-- What a hub of a play came to that was closed.
use Rattle.std.specs.Prelude.{◌≡◌, ◌≤◌, ◌⊎◌, ℕ, ◌+◌, ◌/◌, true, List, [], length, map as each}
use Rattle.atomic_table.specs.Seated.{TableId}
use Rattle.calculus.specs.Rows.{Row}
use Rattle.calculus.specs.Steps.{differ}
use Rattle.calculus.specs.Runs.{Deploy, Work}
use Rattle.events.specs.EventLaws.{Begins}
use Rattle.group_locks.specs.declared.state.SeatState.{SeatState}
use Rattle.group_locks.specs.Seats.{due_of, AtRest}
use Rattle.events.specs.Premises.{FitsInTexts, Collides}
use Rattle.events.specs.Entries.{steps_of, total_of}
use Rattle.events.specs.Allowed.{ShowsAnId}
use Rattle.hub_scenes.specs.Plays.{entries_of}
use Rattle.play_hub.specs.declared.entry.PlayEntry.{PlayEntry}
use Rattle.play_hub.specs.Endings.{play_of}
use Rattle.play_outcome.specs.Runs.{EndedPlay}
use Rattle.play_draws.specs.Turns.{HasCause}

-- the seat belongs to the hub and holds no turn, charged all that it drew, and found an end
abbrev pub IsThrough : {E X W : Type 0} → TableId → SeatState E X W → Type 0
IsThrough home s = AtRest home s × (due_of s ≡ []) × HasCause s

-- So many workers drew these entries. All that they cost was charged; they made no more steps than the limit pays for, and one more for each worker; and where the deploy begins so, they and the closed
-- shards come to a run, or a row's id is a built-in receiver's or made again, or texts collide.
pub record ClosesPlay (deploy : Deploy) (source : Work) (workers : ℕ) (es : List PlayEntry) (closed : List (List Row)) (charged : ℕ) : Type 0 where
  pub total : total_of deploy source (entries_of (play_of es)) ≡ charged
  pub few : length (steps_of (entries_of (play_of es))) ≤ deploy.limit / deploy.prices.comm + workers
  pub comes : Begins deploy source → FitsInTexts deploy (steps_of (entries_of (play_of es))) → differ (each (λ r. r.id) deploy.rows) ≡ true
      → EndedPlay deploy source (play_of es) closed ⊎ (ShowsAnId deploy (steps_of (entries_of (play_of es))) ⊎ Collides deploy (steps_of (entries_of (play_of es))))
