-- What a worker knows of its seat.
use Rattle.std.specs.Prelude.{◌≡◌, ◌<◌, ℕ, Bool, true, false, List, [], ◌∷◌, Option, None}
use Rattle.std.specs.Int.{bit_at}
use Rattle.atomic_table.specs.Seated.{TableId}
use Rattle.group_locks.specs.declared.state.SeatState.{SeatState}
use Rattle.group_locks.specs.Seats.{home_of, held_by, since_of, taken_by, offered_by, due_of, hand_of, stops_of, AtRest, HasLeave, HasRoom}
use Rattle.hub_rule.specs.Counts.{count, things_of}
use Rattle.hub_rule.specs.Meaning.{Meaning}
use Rattle.hub_rule.specs.Rule.{Carries}

module _ {E X W : Type 0} where
  -- the seat has this job in hand, and offered nothing since it took it
  abbrev pub HasJob : W → SeatState E X W → Type 0
  HasJob job s = (index : ℕ) × (taken_by s ≡ (index, job) ∷ []) × (offered_by s ≡ [])

  -- the seat is to do this job, and no shard is in hand
  pub record IsReady (home : TableId) (job : W) (s : SeatState E X W) (in_hand : ℕ → Option X) : Type 0 where
    pub rest : AtRest home s
    pub charged : due_of s ≡ []
    pub leave : HasLeave s × HasRoom s
    pub work : HasJob job s
    pub empty : (k : ℕ) → in_hand k ≡ None

  -- the shards in hand are those whose turns the seat holds, as its entries since made them
  pub record HasInHand {Store : Type 0} (m : Meaning Store E X W) (home : TableId) (s : SeatState E X W) (in_hand : ℕ → Option X) : Type 0 where
    pub hub : home_of s ≡ home
    pub charged : due_of s ≡ []
    pub carries : Carries m (since_of s) (held_by s) in_hand

  -- the seat is to do this job with the shards in hand, which have these bits
  pub record CanDraw {Store : Type 0} (m : Meaning Store E X W) (home : TableId) (job : W) (shards : ℕ) (s : SeatState E X W) (in_hand : ℕ → Option X) : Type 0 where
    pub holds : HasInHand m home s in_hand
    pub leave : HasLeave s × HasRoom s
    pub work : HasJob job s
    pub turns : (k : ℕ) → count k (held_by s) ≡ bit_at shards k

  -- the seat's last entry ended its job and offered these
  pub record HasDrawn (offers : List W) (s : SeatState E X W) : Type 0 where
    pub ended : taken_by s ≡ []
    pub offered : offers ≡ things_of (offered_by s)

  -- the job is done and all that it offered is left, or the hub stops
  pub record HasEnded (home : TableId) (done : Bool) (s : SeatState E X W) : Type 0 where
    pub rest : AtRest home s
    pub charged : due_of s ≡ []
    pub left : done ≡ true → hand_of s ≡ []
    pub stopped : done ≡ false → 0 < stops_of s
