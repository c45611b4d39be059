-- What contracts say of a seat.
use Rattle.std.specs.Prelude.{◌≡◌, ℕ, ◌+◌, ◌*◌, ◌%◌, ◌<◌, ◌≤◌, ◌⊎◌, ◌^◌, true, false, List, [], ◌++◌, length, max, vec_len, vec_capacity}
use Rattle.std.specs.List.{All}
use Rattle.std.specs.declared.vec.Vec.{Vec}
use Rattle.atomic_table.specs.Seated.{TableId}
use Rattle.group_locks.specs.declared.state.SeatState.{SeatState}
use Rattle.hub_rule.specs.declared.terms.StopCause.{StopCause}
use Rattle.hub_rule.specs.declared.terms.StopCause.TheVariants.{Fault, NoMemory}
use Rattle.hub_rule.specs.declared.rule.Opened.{Opened}
use Rattle.hub_rule.specs.declared.terms.Terms.{Terms}
use Rattle.hub_rule.specs.Counts.{total, all_of}
use Rattle.hub_rule.specs.Meaning.{Meaning, Ran}
use Rattle.hub_rule.specs.Rule.{tally, view, blank, cost}
use Rattle.hub_rule.specs.Works.{pile, bare, hand}
use Rattle.hub_rule.specs.declared.view.Pile.{Pile}
use Rattle.hub_rule.specs.declared.view.Tally.{Tally}
use Rattle.hub_rule.specs.declared.view.View.{View}

module _ {E X W : Type 0} where
  -- the table of the hub that the seat belongs to
  abbrev pub home_of : SeatState E X W → TableId
  home_of s = s.token.table_id

  -- the entries that the seat drew, with their numbers, in the order of its draws
  abbrev pub drawn_by : SeatState E X W → List (ℕ × E)
  drawn_by s = s.token.me.0.entries

  -- the shards whose turn the seat holds, by number, each as it was when its turn was taken
  abbrev pub held_by : SeatState E X W → List (ℕ × X)
  held_by s = s.token.me.0.held

  -- the entries that the seat drew while it held a shard, since it held none
  abbrev pub since_of : SeatState E X W → List E
  since_of s = s.token.me.0.since

  -- what the seat charged, and what it found
  abbrev pub tally_of : SeatState E X W → Tally E
  tally_of s = s.token.me.0.tally

  -- what the seat has of the works that are pending
  abbrev pub pile_of : SeatState E X W → Pile E W
  pile_of s = s.token.me.0.pile

  -- the work that the seat took, with its index, until an entry ends it
  abbrev pub taken_by : SeatState E X W → List (ℕ × W)
  taken_by s = (pile_of s).taken

  -- the works that the seat's last entry offered, with their indices, until it leaves them on its desk
  abbrev pub offered_by : SeatState E X W → List (ℕ × W)
  offered_by s = (pile_of s).offered

  -- the works that the seat has in hand, with their indices
  abbrev pub hand_of : SeatState E X W → List (ℕ × W)
  hand_of s = hand (pile_of s)

  -- the entries that the seat drew since it took its work
  abbrev pub took_by : SeatState E X W → List E
  took_by s = (pile_of s).took

  -- how often the seat found that nothing is pending
  abbrev pub empty_of : SeatState E X W → ℕ
  empty_of s = (pile_of s).empty

  -- the entries that the seat charged before it last found the charged word not above the limit
  abbrev pub settled_by : SeatState E X W → List (ℕ × E)
  settled_by s = (tally_of s).settled

  -- those that it charged since
  abbrev pub fresh_by : SeatState E X W → List (ℕ × E)
  fresh_by s = (tally_of s).fresh

  -- all entries that the seat charged
  abbrev pub charged_by : SeatState E X W → List (ℕ × E)
  charged_by s = settled_by s ++ fresh_by s

  -- the entries that the seat drew and has not charged
  abbrev pub due_of : SeatState E X W → List (ℕ × E)
  due_of s = (tally_of s).due

  -- the seat may draw one entry: it asked whether it may go on, and drew nothing since
  abbrev pub HasLeave : SeatState E X W → Type 0
  HasLeave s = (tally_of s).leave ≡ true

  -- how often the seat found the charged word not above the limit
  abbrev pub low_of : SeatState E X W → ℕ
  low_of s = (tally_of s).low

  -- how often the seat found the stop word unset
  abbrev pub unset_of : SeatState E X W → ℕ
  unset_of s = (tally_of s).unset

  -- how often the seat found the charged word above the limit
  abbrev pub over_of : SeatState E X W → ℕ
  over_of s = (tally_of s).over

  -- how often the seat found the hub to stop for want of memory
  abbrev pub memory_of : SeatState E X W → ℕ
  memory_of s = (tally_of s).no_memory

  -- how often the seat found the hub to stop for a fault
  abbrev pub faults_of : SeatState E X W → ℕ
  faults_of s = (tally_of s).fault

  -- how often the seat found the hub to stop for this cause
  abbrev pub found_of : StopCause → SeatState E X W → ℕ
  found_of NoMemory s = memory_of s
  found_of Fault s = faults_of s

  -- how often the seat found the hub to stop
  abbrev pub stops_of : SeatState E X W → ℕ
  stops_of s = (tally_of s).no_memory + (tally_of s).fault

  -- room for one further entry is reserved
  abbrev pub HasRoom : SeatState E X W → Type 0
  HasRoom s = (vec_len s.entries < vec_capacity s.entries) × (vec_len s.entries < 2 ^ 58)

  -- the seat has as much room as before
  abbrev pub SameRoom : SeatState E X W → SeatState E X W → Type 0
  SameRoom old new = (vec_len new.entries ≡ vec_len old.entries) × (vec_capacity new.entries ≡ vec_capacity old.entries)

  -- the seat may draw one entry and has room for it; since then it found the charged word not above the limit, and the stop word unset
  abbrev pub MayGoOn : SeatState E X W → SeatState E X W → Type 0
  MayGoOn old new = HasLeave new × HasRoom new × (low_of old < low_of new) × (unset_of old < unset_of new)

  -- the seat found an end: that nothing is pending, that more is charged than the limit, or that the hub stops
  abbrev pub FoundEnd : SeatState E X W → SeatState E X W → Type 0
  FoundEnd old new = (empty_of old < empty_of new) ⊎ ((over_of old < over_of new) ⊎ (stops_of old < stops_of new))

  -- the seat found the stop unset, and this cause stands from then on; or it found it set
  abbrev pub StopsFor : StopCause → SeatState E X W → SeatState E X W → Type 0
  StopsFor cause old new = ((unset_of new ≡ unset_of old + 1) × (found_of cause new ≡ found_of cause old + 1)) ⊎ (unset_of new ≡ unset_of old)

  -- the seat drew nothing, charged and found nothing, and has no works
  abbrev pub HasDoneNothing : SeatState E X W → Type 0
  HasDoneNothing s = (drawn_by s ≡ []) × (tally_of s ≡ blank) × (pile_of s ≡ bare)

  -- all entries that the seat drew are settled, but for its last one at most
  abbrev pub SettledButLast : SeatState E X W → Type 0
  SettledButLast s = (drawn_by s ≡ (settled_by s ++ fresh_by s) ++ due_of s) × (length (fresh_by s) + length (due_of s) ≤ 1)

  -- the seat belongs to the hub and holds no turn
  abbrev pub AtRest : TableId → SeatState E X W → Type 0
  AtRest home s = (home_of s ≡ home) × (held_by s ≡ [])

  -- the seat belongs to the hub, holds no turn, has charged its last entry, and has no work in hand
  abbrev pub IsIdle : TableId → SeatState E X W → Type 0
  IsIdle home s = AtRest home s × (due_of s ≡ []) × (hand_of s ≡ [])

-- what all these seats charged and found
abbrev pub gathered : {A E X W : Type 0} → (A → SeatState E X W) → List A → Tally E
gathered f ss =
    tally (all_of (λ s. settled_by (f s)) ss) (all_of (λ s. fresh_by (f s)) ss) [] false 0 (total (λ s. over_of (f s)) ss) 0 (total (λ s. (tally_of (f s)).no_memory) ss) (total (λ s. (tally_of (f s)).fault) ss)

-- what all these seats have of the works that are pending
abbrev pub heap_of : {A E X W : Type 0} → (A → SeatState E X W) → List A → Pile E W
heap_of f ss =
    pile (all_of (λ s. hand_of (f s)) ss) [] [] [] (total (λ s. (pile_of (f s)).counted) ss) false [] (total (λ s. empty_of (f s)) ss) (total (λ s. (pile_of (f s)).left) ss) (total (λ s. (pile_of (f s)).fetched) ss)

-- what a seat knows to which all these were joined, where these are their entries
abbrev pub view_of_all : {A E X W : Type 0} → (A → SeatState E X W) → List A → List (ℕ × E) → View E X W
view_of_all f ss entries = view (32 * length ss) entries [] [] (gathered f ss) (heap_of f ss)

-- where a seat found that nothing is pending, nothing is left and no seat has a work in hand
abbrev pub EmptyWhereFound : {A E X W : Type 0} → (A → SeatState E X W) → List A → List W → Type 0
EmptyWhereFound f ss left = All (λ s. 0 < empty_of (f s) → (left ≡ []) × (all_of (λ t. hand_of (f t)) ss ≡ [])) ss

-- so many works stand on desks, of so many at the start, modulo 2^64
abbrev pub Stand : {A E X W : Type 0} → ℕ → (A → SeatState E X W) → List A → ℕ → Type 0
Stand start f ss standing = (standing + total (λ s. (pile_of (f s)).fetched) ss) % 2 ^ 64 ≡ (start + total (λ s. (pile_of (f s)).left) ss) % 2 ^ 64

-- room for all works that stand on desks, of so many at the start
abbrev pub FitsLeft : {A E X W : Type 0} → ℕ → (A → SeatState E X W) → List A → ℕ → Type 0
FitsLeft start f ss room = (standing : ℕ) × (standing < 2 ^ 64) × (standing ≤ room) × Stand start f ss standing

-- this is empty, with room for all works that stand on desks, of so many at the start
abbrev pub CanHoldLeft : {A E X W Z : Type 0} → ℕ → (A → SeatState E X W) → List A → Vec W Z → Type 0
CanHoldLeft start f ss left = (left.items ≡ []) × FitsLeft start f ss (vec_capacity left)

-- there are as many places as these seats drew entries, and this is empty, with room for as many
abbrev pub CanHoldDrawn : {A E X W T Y Z : Type 0} → (A → SeatState E X W) → List A → Vec T Y → Vec E Z → Type 0
CanHoldDrawn f ss places entries = (length places.items ≡ total (λ s. length (drawn_by (f s))) ss) × (entries.items ≡ []) × (length places.items ≤ vec_capacity entries)

module _ {X W : Type 0} where
  -- the shards with which a hub opened
  abbrev pub opened_shards : Opened X W → List X
  opened_shards key = key.shards.value.items

  -- the works with which it opened
  abbrev pub opened_works : Opened X W → List W
  opened_works key = key.works.value.items

  -- how many seats it opened with
  abbrev pub seat_count : Opened X W → ℕ
  seat_count key = key.terms.seats

  -- what was spent before it opened
  abbrev pub spent_of : Opened X W → ℕ
  spent_of key = key.terms.spent

  -- the limit of what is charged
  abbrev pub limit_of : Opened X W → ℕ
  limit_of key = key.terms.limit

  -- it opened with these shards and works, under these terms
  abbrev pub OpensWith : Opened X W → List X → List W → Terms → Type 0
  OpensWith key shards works terms = (opened_shards key ≡ shards) × (opened_works key ≡ works) × (key.terms ≡ terms)

  -- from the shards and works with which it opened these entries ran; these shards closed, these works are left, and these are in hand
  abbrev pub RanFrom : {Store E : Type 0} → Meaning Store E X W → Opened X W → List E → List X → List W → List (ℕ × W) → Type 0
  RanFrom m key entries closed left hands = Ran m (opened_shards key) (opened_works key) entries closed left hands

-- so much is charged: what was spent before, and what the entries cost that these seats charged
abbrev pub IsCharged : {A E X W : Type 0} → (E → ℕ) → Opened X W → (A → SeatState E X W) → List A → ℕ → Type 0
IsCharged price key f ss charged = charged ≡ spent_of key + total (λ s. cost price (charged_by (f s))) ss

-- what was spent before and what the entries cost that these seats settled is no more than the limit, or than what was spent
abbrev pub SettledWithin : {A E X W : Type 0} → (E → ℕ) → Opened X W → (A → SeatState E X W) → List A → Type 0
SettledWithin price key f ss = spent_of key + total (λ s. cost price (settled_by (f s))) ss ≤ max (spent_of key) (limit_of key)
