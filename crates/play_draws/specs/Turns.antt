-- What a worker knows of its seat and of the shards in hand, as it takes a turn at an operation.
use Rattle.std.specs.Prelude.{◌≡◌, ◌<◌, ◌≤◌, ◌⊎◌, ℕ, true, List, [], ◌∷◌, ◌++◌, drop, length, Option}
use Rattle.std.specs.Int.{bit_at}
use Rattle.calculus.specs.Rows.{Row}
use Rattle.calculus.specs.Runs.{Deploy, Work}
use Rattle.group_locks.specs.declared.state.SeatState.{SeatState}
use Rattle.hub_rule.specs.Counts.{count, things_of}
use Rattle.hub_rule.specs.Rule.{Carries, kept_if}
use Rattle.group_locks.specs.Seats.{home_of, drawn_by, tally_of, pile_of, taken_by, offered_by, took_by, due_of, empty_of, over_of, stops_of, SameRoom}
use Rattle.found_rows.specs.declared.found.Found.{Found}
use Rattle.found_rows.specs.AtHand.{MeetsAtHand}
use Rattle.events.specs.Allowed.{IdsTell, MeetsNothing, rows_at_hand}
use Rattle.events.specs.Hands.{shows}
use Rattle.shard_tables.specs.Hands.{AreInHand}
use Rattle.hub_scenes.specs.Plays.{capped_price, has_fault}
use Rattle.play_hub.specs.declared.entry.PlayEntry.{PlayEntry}
use Rattle.play_hub.specs.Values.{entry_of, has_bit, hub_meaning}
use Rattle.play_draws.specs.Making.{IsAgain, IsReady}
use Rattle.play_draws.specs.declared.making.Ready.{Ready}
use Rattle.play_draws.specs.declared.drawing.Drawn.{Drawn}

module _ {E X W : Type 0} where
  -- the seat is as it was, but for shards in hand
  pub record IsSame (old new : SeatState E X W) : Type 0 where
    pub home : home_of new ≡ home_of old
    pub drawn : drawn_by new ≡ drawn_by old
    pub tally : tally_of new ≡ tally_of old
    pub works : pile_of new ≡ pile_of old
    pub room : SameRoom old new

  -- the seat took this work when it had drawn so many entries, and has it in hand; what it offered it left, and what it drew it charged
  pub record HasWork (w : W) (from : ℕ) (s : SeatState E X W) : Type 0 where
    pub index : ℕ
    pub taken : taken_by s ≡ (index, w) ∷ []
    pub offered : offered_by s ≡ []
    pub due : due_of s ≡ []
    pub since : from ≤ length (drawn_by s)
    pub took : things_of (drop from (drawn_by s)) ≡ took_by s

  -- the seat found an end: nothing is pending, more is charged than the limit, or the hub stops
  abbrev pub HasCause : SeatState E X W → Type 0
  HasCause s = (0 < empty_of s) ⊎ ((0 < over_of s) ⊎ (0 < stops_of s))

module _ {X : Type 0} (rows : X → List Row) where
  -- where ids tell the rows in hand, the operation meets nothing there
  abbrev pub MeetsNothingInHand : (ℕ → Option X) → Row → Type 0
  MeetsNothingInHand in_hand o = (all : List Row) → AreInHand rows in_hand all → IdsTell (rows_at_hand all o) → MeetsNothing all o

  -- this step is made with what the operation meets in hand, after these entries on it
  abbrev pub IsReadyInHand : Deploy → (ℕ → Option X) → Row → List (ℕ × PlayEntry) → Ready → Type 0
  IsReadyInHand d in_hand o took r = (found : Found) × ((all : List Row) → AreInHand rows in_hand all → MeetsAtHand all o found) × IsReady d.prices d.limit found took r

module _ {X : Type 0} (rows : X → List Row) (deploy : Deploy) (source : Work) where
  -- the shards of a group are in hand as they were taken, and all that their rows show for the operation are among them
  pub record HoldsGroup (o : Row) (group : ℕ) (held : List (ℕ × X)) (in_hand : ℕ → Option X) : Type 0 where
    pub carries : Carries (hub_meaning deploy source rows) [] held in_hand
    pub turns : (k : ℕ) → count k held ≡ bit_at group k
    pub low : (k : ℕ) → 64 ≤ k → count k held ≡ 0
    pub shown : (all : List Row) → AreInHand rows in_hand all → (k : ℕ) → shows all o k ≡ true → has_bit group k ≡ true

  -- the shards in hand are those whose turns the seat holds, as its entries since made them
  abbrev pub HandCarries : List PlayEntry → List (ℕ × X) → (ℕ → Option X) → Type 0
  HandCarries = Carries (hub_meaning deploy source rows)

module _ {X : Type 0} where
  -- the seat has the operation in hand, and so often the step of its last entry on it was made, where it is told
  abbrev pub HasTaken : Row → ℕ → Option ℕ → SeatState PlayEntry X Row → Type 0
  HasTaken o from again s = HasWork o from s × IsAgain (drop from (drawn_by s)) again

  -- the seat drew an entry on its operation, of which this is told
  pub record IsDrawn (from : ℕ) (old new : SeatState PlayEntry X Row) (d : Drawn) : Type 0 where
    pub number : ℕ
    pub entry : PlayEntry
    pub home : home_of new ≡ home_of old
    pub drawn : drawn_by new ≡ drawn_by old ++ (number, entry) ∷ []
    pub due : due_of new ≡ (number, entry) ∷ []
    pub taken : taken_by new ≡ kept_if d.ends (taken_by old)
    pub offered : things_of (offered_by new) ≡ d.offers.items
    pub took : took_by new ≡ took_by old ++ entry ∷ []
    pub price : d.price ≡ capped_price (entry_of entry).entry.making
    pub fault : d.faulty ≡ has_fault (entry_of entry).entry.making
    pub again : IsAgain (drop from (drawn_by old) ++ (number, entry) ∷ []) d.again
