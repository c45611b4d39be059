-- What the rows of shards tell of a store, and entries of shards. Each law stands in the contract of a public function that does nothing.
use Rattle.std.specs.Prelude.{◌≡◌, ◌<◌, ◌↔◌, ℕ, Bool, true, false, List, ◌∷◌, map as each, Option, Some, None}
use Rattle.calculus.specs.Tree.{Tree}
use Rattle.calculus.specs.Congruence.{congruent}
use Rattle.calculus.specs.Rows.{Row}
use Rattle.calculus.specs.Log.{Step}
use Rattle.calculus.specs.Steps.{Meeting, differ}
use Rattle.calculus.specs.Storing.{shard}
use Rattle.calculus.specs.Runs.{Deploy, Work}
use Rattle.events.specs.Events.{AreFresh}
use Rattle.events.specs.Found.{met, Among, AreAtHand}
use Rattle.events.specs.Entries.{Space, Making, Entry, space_after, steps_of, entries_on}
use Rattle.events.specs.Allowed.{IdsTell, rows_at_hand, MeetsNothing, MakesStep, IsAllowed, AreAllowed}
use Rattle.events.specs.Shards.{stands_in, rows_in, IsProjection, changed_rows, Covers, shard_after, Becomes}
use Rattle.events.specs.Hands.{shows, HoldShards, HoldShown, rows_of_all, is_in_hand, AreProjections}

-- congruent channels have one shard
abbrev pub CongruentChannelsShareAShard : Type 0
CongruentChannelsShareAShard = (t u : Tree) → congruent t u ≡ true → shard t ≡ shard u

-- there are 64 shards
abbrev pub RowsStandInShards : Type 0
RowsStandInShards = (r : Row) (k : ℕ) → stands_in k r ≡ true → k < 64

-- an entry changes no shard that it does not touch, whatever the store and the entry, where it touches the shards of all rows that come or leave by it
abbrev pub UntouchedShardsStay : Type 0
UntouchedShardsStay = (space : Space) (o : Row) (x : Option Making) (touched : ℕ → Bool) (k : ℕ)
    → Covers touched (changed_rows space.store o x) → touched k ≡ false → rows_in k (space_after space o x).store ≡ rows_in k space.store

-- what an entry makes of a shard is determined by that shard and the entry, whatever the store and the entry
abbrev pub ShardsFollow : Type 0
ShardsFollow = (space : Space) (o : Row) (x : Option Making) (k : ℕ) → rows_in k (space_after space o x).store ≡ shard_after k (rows_in k space.store) o x

-- so where no two stored rows have one id, what a table makes of a projection is the projection after the entry
abbrev pub ProjectionsFollow : Type 0
ProjectionsFollow = (space : Space) (o : Row) (x : Option Making) (k : ℕ) (rows later : List Row)
    → differ (each (λ r. r.id) space.store) ≡ true → IsProjection space.store k rows → Becomes k o x rows later → IsProjection (space_after space o x).store k later

-- projections of a store to numbers are shards that are held
abbrev pub ProjectionsAreHeld : Type 0
ProjectionsAreHeld = (store : List Row) (shards : List (ℕ × List Row)) → AreProjections store shards → HoldShards store (is_in_hand shards) (rows_of_all shards)

-- where all shards are held that the rows in hand show for an operation, all stored rows that it meets are in hand
abbrev pub MetRowsAreInHand : Type 0
MetRowsAreInHand = (store : List Row) (held : ℕ → Bool) (rows : List Row) (o : Row) → HoldShards store held rows → HoldShown held rows o
    → (r : Row) (sends : List Row) (m : Meeting) → AreAtHand store o (r ∷ sends) → Among o (r ∷ sends) → met (r ∷ sends) ≡ Some m → AreAtHand rows o (r ∷ sends)

-- so it meets nothing in hand exactly where it meets nothing stored
abbrev pub NothingInHandIsNothingStored : Type 0
NothingInHandIsNothingStored = (store : List Row) (held : ℕ → Bool) (rows : List Row) (o : Row) → HoldShards store held rows → HoldShown held rows o
    → MeetsNothing rows o ↔ MeetsNothing store o

-- and it makes a step with rows in hand exactly where it makes that step with stored rows, where ids tell rows
abbrev pub StepsInHandAreSteps : Type 0
StepsInHandAreSteps = (store : List Row) (held : ℕ → Bool) (rows : List Row) (o : Row) → HoldShards store held rows → HoldShown held rows o → IdsTell (rows_at_hand store o)
    → (deploy : Deploy) (made : List Step) (a : Making) (w : Work) → MakesStep deploy rows made o a w ↔ MakesStep deploy store made o a w

-- what an entry says of its step, where it made one, is so with these rows after these steps
abbrev pub IsShownBy : Deploy → List Row → List Step → Row → Option Making → Type 0
IsShownBy deploy rows made o None = MeetsNothing rows o
IsShownBy deploy rows made o (Some a) = (w : Work) × MakesStep deploy rows made o a w

-- the shards that the rows in hand show for an operation are all that its entry changes
abbrev pub ShownShardsCoverEntries : Type 0
ShownShardsCoverEntries = (store : List Row) (held : ℕ → Bool) (rows : List Row) (o : Row) → HoldShards store held rows → HoldShown held rows o → IdsTell (rows_at_hand store o)
    → (deploy : Deploy) (made : List Step) (x : Option Making) → IsShownBy deploy store made o x → Covers (shows rows o) (changed_rows store o x)

-- under fresh digests, ids tell the rows that a pending operation may meet, and no two stored rows have one id
abbrev pub IdsTellStoredRows : Type 0
IdsTellStoredRows = (deploy : Deploy) (source : Work) (entries : List Entry) (space : Space) → AreAllowed deploy source entries space → AreFresh deploy space.made
    → differ (each (λ r. r.id) space.store) ≡ true × ((o : Row) → Among o space.pending → IdsTell (rows_at_hand space.store o))

-- The shards in hand with the operation and its own earlier entries tell whether an entry is allowed: it is where they show what it says, and what they show is so with the
-- whole store and all steps made. The shards need be those of the space under fresh digests alone.
abbrev pub HeldShardsTellEntries : Type 0
HeldShardsTellEntries = (deploy : Deploy) (source : Work) (entries : List Entry) (space : Space) → AreAllowed deploy source entries space → (o : Row) → Among o space.pending
    → (held : ℕ → Bool) (rows : List Row) → (AreFresh deploy space.made → HoldShards space.store held rows) → HoldShown held rows o
    → (x : Option Making) → IsShownBy deploy rows (steps_of (entries_on o.id entries)) o x → IsAllowed deploy space (record { operation = o; making = x })

-- and under fresh digests exactly there, for what an entry says of the store
abbrev pub HeldShardsTellExactly : Type 0
HeldShardsTellExactly = (deploy : Deploy) (source : Work) (entries : List Entry) (space : Space) → AreAllowed deploy source entries space → AreFresh deploy space.made
    → (o : Row) → Among o space.pending → (held : ℕ → Bool) (rows : List Row) → HoldShards space.store held rows → HoldShown held rows o
    → (x : Option Making) → IsShownBy deploy rows (steps_of (entries_on o.id entries)) o x ↔ IsShownBy deploy space.store space.made o x
