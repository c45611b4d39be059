-- A replay's start, and what its workers left.
use Rattle.std.specs.Prelude.{◌≡◌, ◌⊎◌, ◌||◌, Bool, List, map, None}
use Rattle.std.specs.List.{list_any}
use Rattle.std.specs.Str.{bytes_eq}
use Rattle.calculus.specs.Log.{Step}
use Rattle.calculus.specs.Rows.{Row, stdout, stdout_ack}
use Rattle.calculus.specs.Runs.{Deploy, Work, source_seed, work_price, work_fault}
use Rattle.calculus.specs.Unfolding.{Unfolds}
use Rattle.racing_replays.specs.Answering.{SomeClash}
use Rattle.hub_scenes.specs.Closing.{DecideLog}
use Rattle.hub_scenes.specs.Entries.{did_by}
use Rattle.replay_hub.specs.Values.{entry_of}
use Rattle.replay_hub.specs.declared.deed.Task.{Task}
use Rattle.replay_hub.specs.declared.deed.Task.TheVariants.{Arrive}
use Rattle.replay_runs.specs.declared.ending.Raced.{Raced}

-- rows that a source offers are to arrive
abbrev pub arrivals : {C : Type 0} → List Row → List (Task Row C)
arrivals rows = map (λ r. Arrive (record { row = r; from = None })) rows

-- the source of a deploy came to a work with this price and this fault, and what workers left decides the log, or the digests of some replay of it clash
pub record IsRaced (deploy : Deploy) (ss : List Step) (r : Raced) : Type 0 where
  pub work : Work
  pub unfolds : Unfolds deploy.prices deploy.limit deploy.process (source_seed deploy) work
  pub price : work_price deploy.limit work ≡ r.price
  pub fault : work_fault work ≡ r.fault
  pub decides : DecideLog deploy work ss (did_by (map (entry_of (λ q. q) (λ t. t)) r.entries.items)) r.shards.items ⊎ SomeClash deploy work ss

-- whether a row has the id of a built-in receiver
abbrev pub has_built_in_id : Row → Bool
has_built_in_id r = bytes_eq r.id stdout.id || bytes_eq r.id stdout_ack.id

-- whether one of these rows has
abbrev pub any_built_in_id : List Row → Bool
any_built_in_id rows = list_any has_built_in_id rows
