-- What shards in hand show: rows that fit a step of the log, or that none do.
use Rattle.std.specs.Prelude.{◌≡◌, ⊤, ℕ, suc, ◌+◌, ◌<◌, Bool, cond, true, ◌&&◌, ◌||◌, eqb, List, [], ◌∷◌, ◌++◌, length, map as each, flat_map, count_by, slice_get, Option, Some, None}
use Rattle.calculus.specs.Log.{Step}
use Rattle.calculus.specs.Rows.{Row, channels}
use Rattle.calculus.specs.Storing.{shard}
use Rattle.calculus.specs.Unfolding.{rows_of}
use Rattle.calculus.specs.Steps.{Meeting, is_one_of, differ, same_meeting}
use Rattle.calculus.specs.Runs.{Deploy, Work, work_products, work_price, work_fault, body_work}
use Rattle.events.specs.Found.{met, leaving_rows, is_lasting, printed_by}
use Rattle.events.specs.Entries.{Making}
use Rattle.racing_replays.specs.Replaying.{names, ids_of}
use Rattle.racing_replays.specs.Counted.{names_id, uses}
use Rattle.events.specs.Shards.{stands_in, Covers}
use Rattle.events.specs.Hands.{is_one_channel}
use Rattle.hub_scenes.specs.Spaces.{SeenRow, IndexTry, Part, bare, IsIn}
use Rattle.hub_scenes.specs.Entries.{Deed, arrives, does, idles, Entry, indices}

-- the rows of the shards in hand, and the built-in receivers in them
abbrev pub shown : List (ℕ × Part) → List SeenRow
shown shards = flat_map (λ s. s.1.rows ++ s.1.built) shards

-- the shard k is in hand
abbrev pub HasShard : List (ℕ × Part) → ℕ → Type 0
HasShard shards k = IsIn k (each (λ s. s.0) shards)

-- ids tell these rows: rows with one id are one, with one count
abbrev pub IdsTellSeen : List SeenRow → Type 0
IdsTellSeen qs = (q z : SeenRow) → IsIn q qs → IsIn z qs → q.row.id ≡ z.row.id → q ≡ z

-- a row stands from the start, or was offered by a step below this index
abbrev pub IsLower : Option ℕ → ℕ → Type 0
IsLower None i = ⊤
IsLower (Some j) i = j < i

-- one or none
abbrev pub one_or_none : Option ℕ → List ℕ
one_or_none None = []
one_or_none (Some i) = i ∷ []

module _ (ss : List Step) where
  -- the use of an id at this place in the log, if there is one
  abbrev pub use_at : List ℕ → ℕ → List ℕ
  use_at x n = one_or_none (slice_get (uses x 0 ss) n)

  -- the next use of a row that is seen, after one more done step that names it, if it is not gone
  abbrev pub later_use : List (List ℕ) → SeenRow → List ℕ
  later_use gone q = cond (is_one_of q.row.id gone) [] (use_at q.row.id (suc q.done))

  -- Rows fit the step with the index i, which stands in the log after these: they have the ids that it names, its data differ, and they meet; of each the next use is this step, and each
  -- stands from the start or was offered by a lower step; the repeat number is how often the step stands before itself, and 0 unless no row leaves.
  pub record Fit (before : List Step) (s : Step) (i : ℕ) (qs : List SeenRow) (m : Meeting) : Type 0 where
    pub named : names s ≡ ids_of (bare qs)
    pub differs : differ s.data_ids ≡ true
    pub meets : met (bare qs) ≡ Some m
    pub turn : (q : SeenRow) → IsIn q qs → slice_get (uses q.row.id 0 ss) q.done ≡ Some i
    pub lower : (q : SeenRow) → IsIn q qs → IsLower q.from i
    pub repeats : eqb s.repeat (count_by (same_meeting s) before) && (eqb s.repeat 0 || is_lasting m) ≡ true

  -- a try is on a channel of one of these rows, which its step names
  pub record IsUse (rs : List Row) (t : IndexTry) : Type 0 where
    pub row : Row
    pub there : IsIn row rs
    pub channel : IsIn t.channel (channels row.part)
    pub named : (before : List Step) (s : Step) (after : List Step) → ss ≡ before ++ s ∷ after → length before ≡ t.index → names_id row.id s ≡ true

  -- what is to be tried when a row arrives: its first use
  pub record IsFirstUse (r : Row) (next : List IndexTry) : Type 0 where
    pub are : indices next ≡ use_at r.id 0
    pub uses_of : (t : IndexTry) → IsIn t next → IsUse (r ∷ []) t

  -- The shards in hand show that the step of a try may not be done: the shard of its channel is in hand, and of each receiver in hand that the step names and that has this channel all
  -- shards are, and with no rows in hand does it fit the step.
  pub record IsShownIdle (shards : List (ℕ × Part)) (t : IndexTry) (before : List Step) (s : Step) : Type 0 where
    pub own : HasShard shards (shard t.channel)
    pub joined : (r : SeenRow) → IsIn r (shown shards) → r.row.id ≡ s.receiver → is_one_channel t.channel (channels r.row.part) ≡ true → (k : ℕ) → stands_in k r.row ≡ true → HasShard shards k
    pub none : (r : SeenRow) → IsIn r (shown shards) → r.row.id ≡ s.receiver → is_one_channel t.channel (channels r.row.part) ≡ true
        → (ds : List SeenRow) → ((d : SeenRow) → IsIn d ds → IsIn d (shown shards)) → (m : Meeting) → Fit before s t.index (r ∷ ds) m → ⊥

  -- so they do, if ids tell the rows in hand
  abbrev pub IsIdle : List (ℕ × Part) → IndexTry → Type 0
  IsIdle shards t = IdsTellSeen (shown shards) → (before : List Step) (s : Step) (after : List Step) → ss ≡ before ++ s ∷ after → length before ≡ t.index → IsShownIdle shards t before s

  -- Rows that are there fit the step with the index i of the log, as the making tells it: what leaves, what is printed, and what the body comes to. The next use of each named row that
  -- stays is to be tried, but for some early ones. The shards of all rows that the step names are touched.
  pub record Makes (deploy : Deploy) (there : List SeenRow) (i : ℕ) (touched : ℕ → Bool) (a : Making) (next : List IndexTry) : Type 0 where
    pub before : List Step
    pub after : List Step
    pub log : ss ≡ before ++ a.step ∷ after
    pub place : length before ≡ i
    pub rows : List SeenRow
    pub at_hand : (q : SeenRow) → IsIn q rows → IsIn q there
    pub found : Meeting
    pub fits : Fit before a.step i rows found
    pub covers : Covers touched (bare rows)
    pub gone : a.gone ≡ ids_of (leaving_rows found.receiver.kind found.sends (bare rows))
    pub line : a.line ≡ printed_by (bare rows) found
    pub room : ℕ
    pub work : Work
    pub works : body_work deploy.prices deploy.limit room a.step found ≡ Some work
    pub offers : a.offers ≡ rows_of (work_products work)
    pub price : a.price ≡ deploy.prices.comm + work_price deploy.limit work
    pub fault : a.fault ≡ work_fault work
    pub early : List ℕ
    pub are : early ++ indices next ≡ flat_map (later_use a.gone) rows
    pub uses_of : (t : IndexTry) → IsIn t next → IsUse (bare rows) t

  -- The shards in hand show of a step that it may not be done once these rows have met: its receiver is one of them, all shards of this one are in hand, and no row in hand has an id of the
  -- step's data.
  pub record IsEarly (shards : List (ℕ × Part)) (rows : List SeenRow) (s : Step) : Type 0 where
    pub receiver : SeenRow
    pub there : IsIn receiver rows
    pub named : receiver.row.id ≡ s.receiver
    pub joined : (k : ℕ) → stands_in k receiver.row ≡ true → HasShard shards k
    pub id : List ℕ
    pub wanted : IsIn id s.data_ids
    pub none : (q : SeenRow) → IsIn q (shown shards) → q.row.id ≡ id → ⊥

  -- so they show of the steps with these indices, which are not to be tried
  abbrev pub AreEarly : List (ℕ × Part) → List SeenRow → List ℕ → Type 0
  AreEarly shards rows early = (i : ℕ) → IsIn i early → (before : List Step) (s : Step) (after : List Step) → ss ≡ before ++ s ∷ after → length before ≡ i → IsEarly shards rows s

  -- the shards in hand tell that a deed is allowed
  abbrev pub TellsDeed : Deploy → List (ℕ × Part) → (ℕ → Bool) → Deed → Type 0
  TellsDeed deploy shards touched (arrives a next) = Covers touched (a.row ∷ []) × IsFirstUse a.row next
  TellsDeed deploy shards touched (does t a next) = (m : Makes deploy (shown shards) t.index touched a next) × AreEarly shards m.rows m.early
  TellsDeed deploy shards touched (idles t) = IsIdle shards t

  -- and so that an entry is; earlier entries on its job tell nothing
  abbrev pub TellsEntry : Deploy → List (ℕ × Part) → List Entry → Entry → Type 0
  TellsEntry deploy shards took e = TellsDeed deploy shards e.shards e.deed
