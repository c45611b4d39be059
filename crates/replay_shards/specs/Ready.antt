-- What a step may be done with.
use Rattle.std.specs.Prelude.{◌≡◌, ◌++◌, ℕ, true, ◌||◌, eqb, length, List, [], ◌∷◌, map as each, flat_map, Option, Some, None}
use Rattle.calculus.specs.Log.{Step}
use Rattle.calculus.specs.Rows.{Row}
use Rattle.calculus.specs.Steps.{Meeting}
use Rattle.events.specs.Found.{met, is_lasting}
use Rattle.hub_scenes.specs.Spaces.{SeenRow, IndexTry, bare, IsIn}
use Rattle.hub_scenes.specs.Entries.{indices}
use Rattle.hub_scenes.specs.Showing.{later_use, use_at, Fit, IsUse}
use Rattle.row_meeting.specs.Meeting.{IsMeeting}
use Rattle.replay_shards.specs.declared.ready.Ready.{Ready}
use Rattle.replay_shards.specs.declared.ready.Try.{Try}
use Rattle.replay_rows.specs.Rows.{find_seen, AreLow}
use Rattle.replay_shards.specs.Taken.{bytes_of}

-- a try
abbrev pub index_try : Try → IndexTry
index_try t = record { index = t.step; channel = t.channel }

-- tries
abbrev pub index_tries : List Try → List IndexTry
index_tries ts = each index_try ts

-- one or none
abbrev pub if_any : Option Try → List Try
if_any None = []
if_any (Some t) = t ∷ []

-- the try of the use of a row at this place, if there is such a use
pub record IsUseTry (ss : List Step) (r : Row) (n : ℕ) (ts : List Try) : Type 0 where
  pub are : indices (index_tries ts) ≡ use_at ss r.id n
  pub uses_of : (t : IndexTry) → IsIn t (index_tries ts) → IsUse ss (r ∷ []) t

-- the tries that follow for these rows, where the rows with those ids leave
pub record AreNext (ss : List Step) (gone : List (List ℕ)) (qs : List SeenRow) (ts : List Try) : Type 0 where
  pub are : indices (index_tries ts) ≡ flat_map (later_use ss gone) qs
  pub uses_of : (t : IndexTry) → IsIn t (index_tries ts) → IsUse ss (bare qs) t

-- the tries that follow for one more row come behind the others
pub record Follow (ss : List Step) (gone : List (List ℕ)) (q : SeenRow) (old new : List Try) : Type 0 where
  pub more : List Try
  pub are : new ≡ old ++ more
  pub next : AreNext ss gone (q ∷ []) more

-- no row in hand has one of these ids
pub record LacksOne (shown : List SeenRow) (ids : List (List ℕ)) : Type 0 where
  pub id : List ℕ
  pub wanted : IsIn id ids
  pub none : find_seen id shown ≡ None

-- a step has the receiver with this id, and no row in hand has the id of one of its data
pub record Lacks (shown : List SeenRow) (x : List ℕ) (s : Step) : Type 0 where
  pub receiver : x ≡ s.receiver
  pub datum : LacksOne shown s.data_ids

-- so it is of the step with this index
abbrev pub LacksAt : List Step → List SeenRow → List ℕ → ℕ → Type 0
LacksAt ss shown x i = (before : List Step) (s : Step) (after : List Step) → ss ≡ before ++ s ∷ after → length before ≡ i → Lacks shown x s

-- so it is of the step of the first of these tries
pub record StartsEarly (ss : List Step) (shown : List SeenRow) (x : List ℕ) (ts : List Try) : Type 0 where
  pub first : Try
  pub others : List Try
  pub are : ts ≡ first ∷ others
  pub lacks : LacksAt ss shown x first.step

-- tries are all of these but some early ones
pub record AreBut (ss : List Step) (shown : List SeenRow) (x : List ℕ) (all ts : List Try) : Type 0 where
  pub early : List ℕ
  pub are : early ++ indices (index_tries ts) ≡ indices (index_tries all)
  pub fewer : (t : IndexTry) → IsIn t (index_tries ts) → IsIn t (index_tries all)
  pub lacks : (i : ℕ) → IsIn i early → LacksAt ss shown x i

-- rows do not meet, or not so that a step with this repeat number may be made
abbrev pub MeetNot : List SeenRow → ℕ → Type 0
MeetNot qs n = (m : Meeting) → met (bare qs) ≡ Some m → eqb n 0 || is_lasting m ≡ true → ⊥

-- a receiver and data meet, and this tells what they bind, and the tries that follow
pub record Meet (ss : List Step) (shown : List SeenRow) (n : ℕ) (receiver : SeenRow) (data_rows : List SeenRow) (r : Ready) : Type 0 where
  pub found : IsMeeting receiver.row (bare data_rows) r.found
  pub may : eqb n 0 || is_lasting found.meeting ≡ true
  pub all : List Try
  pub next : AreNext ss (bytes_of r.found.gone.items) (receiver ∷ data_rows) all
  pub but : AreBut ss shown receiver.row.id all r.next.items

-- rows in hand fit the step with the index i, and this tells what they bind, and the tries that follow
pub record IsReady (ss : List Step) (shown : List SeenRow) (before : List Step) (s : Step) (i : ℕ) (r : Ready) : Type 0 where
  pub receiver : SeenRow
  pub data_rows : List SeenRow
  pub first : find_seen s.receiver shown ≡ Some receiver
  pub at_hand : (q : SeenRow) → IsIn q (receiver ∷ data_rows) → IsIn q shown
  pub found : IsMeeting receiver.row (bare data_rows) r.found
  pub fits : Fit ss before s i (receiver ∷ data_rows) found.meeting
  pub early : List ℕ
  pub are : early ++ indices (index_tries r.next.items) ≡ flat_map (later_use ss (bytes_of r.found.gone.items)) (receiver ∷ data_rows)
  pub uses_of : (t : IndexTry) → IsIn t (index_tries r.next.items) → IsUse ss (bare (receiver ∷ data_rows)) t
  pub lacks : (i : ℕ) → IsIn i early → LacksAt ss shown receiver.row.id i
  pub low : AreLow s shown
