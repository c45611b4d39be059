-- What a worker shows of an entry before it draws it, and how the shards in hand are carried over it.
use Rattle.std.specs.Prelude.{◌≡◌, ℕ, Bool, true, List, [], ◌∷◌, ◌++◌, length, map, Option, Some, None, is_some}
use Rattle.calculus.specs.Tree.{Tree}
use Rattle.calculus.specs.Log.{Step}
use Rattle.calculus.specs.Rows.{Row, channels}
use Rattle.calculus.specs.Steps.{Meeting}
use Rattle.calculus.specs.Storing.{shard}
use Rattle.calculus.specs.Runs.{Deploy}
use Rattle.hub_rule.specs.Meaning.{Passes, AllFollow}
use Rattle.hub_rule.specs.Rule.{Carries}
use Rattle.events.specs.Shards.{stands_in, Covers}
use Rattle.events.specs.Hands.{is_one_channel}
use Rattle.hub_scenes.specs.Spaces.{SeenRow, Part, IsIn}
use Rattle.hub_scenes.specs.Showing.{Fit, IsFirstUse, Makes}
use Rattle.replay_hub.specs.declared.deed.Try.{Try}
use Rattle.replay_hub.specs.declared.deed.Made.{Made}
use Rattle.replay_hub.specs.declared.deed.Did.{Did}
use Rattle.replay_hub.specs.declared.deed.Did.TheVariants.{Arrived, Done, Idle}
use Rattle.replay_hub.specs.declared.deed.Entry.{Entry}
use Rattle.replay_hub.specs.Values.{has_bit, try_of, making_of, values, AreShownIdle}

module _ {S : Type 0} (part : S → Part) (in_hand : ℕ → Option S) where
  -- a row of a shard in hand, or a built-in receiver in one
  abbrev pub IsInHand : SeenRow → Type 0
  IsInHand q = (k : ℕ) × (x : S) × (in_hand k ≡ Some x) × IsIn q ((part x).rows ++ (part x).built)

  -- ids tell the rows in hand: those with one id are one, with one count
  abbrev pub IdsTellHand : Type 0
  IdsTellHand = (q z : SeenRow) → IsInHand q → IsInHand z → q.row.id ≡ z.row.id → q ≡ z

  -- a receiver in hand that a step names has this channel
  abbrev pub Hears : Step → Tree → SeenRow → Type 0
  Hears s c r = IsInHand r × (r.row.id ≡ s.receiver) × (is_one_channel c (channels r.row.part) ≡ true)

  -- what the shards in hand show of a step, with this index and after these in the log, that may not be done: the shard of the try's channel is in hand, and of each receiver in hand that the
  -- step names and that has this channel all shards are, and with no rows in hand does it fit the step
  pub record ShowsNoFit (ss before : List Step) (s : Step) (i : ℕ) (c : Tree) : Type 0 where
    pub own : is_some (in_hand (shard c)) ≡ true
    pub joined : (r : SeenRow) → Hears s c r → (k : ℕ) → stands_in k r.row ≡ true → is_some (in_hand k) ≡ true
    pub none : (r : SeenRow) → Hears s c r → (ds : List SeenRow) → ((d : SeenRow) → IsIn d ds → IsInHand d) → (m : Meeting) → Fit ss before s i (r ∷ ds) m → ⊥

  -- so it is of the step that a try names, if ids tell the rows in hand
  abbrev pub ShowsIdle : {C : Type 0} → List Step → (C → Tree) → Try C → Type 0
  ShowsIdle ss channel t = IdsTellHand → (before : List Step) (s : Step) (after : List Step) → ss ≡ before ++ s ∷ after → length before ≡ t.step → ShowsNoFit ss before s t.step (channel t.channel)

  -- what the shards in hand show of a step that may not be done once these rows have met: its receiver is one of them, all shards of this one are in hand, and no row in hand has an id of
  -- the step's data
  pub record ShowsEarly (rows : List SeenRow) (s : Step) : Type 0 where
    pub receiver : SeenRow
    pub there : IsIn receiver rows
    pub named : receiver.row.id ≡ s.receiver
    pub joined : (k : ℕ) → stands_in k receiver.row ≡ true → is_some (in_hand k) ≡ true
    pub id : List ℕ
    pub wanted : IsIn id s.data_ids
    pub none : (q : SeenRow) → IsInHand q → q.row.id ≡ id → ⊥

  -- so it is of the steps with these indices
  abbrev pub AreShownEarly : List Step → List SeenRow → List ℕ → Type 0
  AreShownEarly ss rows early = (i : ℕ) → IsIn i early → (before : List Step) (s : Step) (after : List Step) → ss ≡ before ++ s ∷ after → length before ≡ i → ShowsEarly rows s

module _ {R C S : Type 0} (deploy : Deploy) (ss : List Step) (row : R → Row) (channel : C → Tree) (part : S → Part) where
  -- what a worker shows of a done step: it is made with rows in hand
  pub record ShowsDone (in_hand : ℕ → Option S) (touched : ℕ → Bool) (m : Made R C) : Type 0 where
    pub there : List SeenRow
    pub are : (q : SeenRow) → IsIn q there → IsInHand part in_hand q
    pub makes : Makes ss deploy there m.step touched (making_of row channel m) (map (try_of row channel) m.next.value.items)
    pub early : AreShownEarly part in_hand ss makes.rows makes.early

  -- what a worker shows of what an entry does that touches these shards
  abbrev pub ShowsDeed : (ℕ → Option S) → (ℕ → Bool) → Did R C → Type 0
  ShowsDeed in_hand touched (Arrived a) = Covers touched (row a.coming.value.row ∷ []) × IsFirstUse ss (row a.coming.value.row) (map (try_of row channel) a.next.value.items)
  ShowsDeed in_hand touched (Done m) = ShowsDone in_hand touched m
  ShowsDeed in_hand touched (Idle t) = ShowsIdle part in_hand ss channel t.value

  -- what a worker shows of an entry
  abbrev pub ShowsEntry : (ℕ → Option S) → Entry R C → Type 0
  ShowsEntry in_hand e = ShowsDeed in_hand (has_bit e.shards) e.did

  -- what a worker shows is what a draw asks for
  abbrev pub DrawsAreTold : Type 0
  DrawsAreTold = (in_hand : ℕ → Option S) (since : List (Entry R C)) (held : List (ℕ × S)) (took : List (Entry R C)) (e : Entry R C)
      → Carries (values deploy ss row channel part) since held in_hand → ShowsEntry in_hand e
      → (before : List (ℕ × S)) × AllFollow (values deploy ss row channel part) since held before × (values deploy ss row channel part).tells before took e

  -- and so is what it shows of an idle try
  abbrev pub IdleTriesAreShown : Type 0
  IdleTriesAreShown = (in_hand : ℕ → Option S) (since : List (Entry R C)) (held : List (ℕ × S)) (t : Try C)
      → Carries (values deploy ss row channel part) since held in_hand → ShowsIdle part in_hand ss channel t → AreShownIdle ss channel part in_hand held t

  -- each shard in hand is as the entry makes it, and no other is in hand
  pub record IsChangedBy (e : Entry R C) (old new : ℕ → Option S) : Type 0 where
    pub here : (k : ℕ) (x : S) → old k ≡ Some x → (y : S) × (new k ≡ Some y) × Passes (values deploy ss row channel part) (has_bit e.shards k) e k x y
    pub absent : (k : ℕ) → old k ≡ None → new k ≡ None

  -- then the shards in hand are carried over the entry
  abbrev pub DrawsCarry : Type 0
  DrawsCarry = (old new : ℕ → Option S) (since : List (Entry R C)) (held : List (ℕ × S)) (e : Entry R C)
      → Carries (values deploy ss row channel part) since held old → IsChangedBy e old new → Carries (values deploy ss row channel part) (since ++ e ∷ []) held new
