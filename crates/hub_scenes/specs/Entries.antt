-- Entries of a replay: a row arrives, a step is done, or a try is idle.
use Rattle.std.specs.Prelude.{◌≡◌, ℕ, suc, Bool, true, cond, eqb, List, [], ◌∷◌, ◌++◌, filter, map as each, flat_map, Some, IsPermutation}
use Rattle.std.specs.Str.{bytes_eq}
use Rattle.calculus.specs.Log.{Step}
use Rattle.calculus.specs.Steps.{is_one_of, differ}
use Rattle.events.specs.Entries.{Making}
use Rattle.racing_replays.specs.Replaying.{ids_of}
use Rattle.racing_replays.specs.Counted.{names_id}
use Rattle.hub_scenes.specs.Spaces.{SeenRow, NewRow, IndexTry, Job, arrive, try_index, DidStep, Part, Space, new_row, arrived, bare, seen_in, lies_in}

-- a row arrives, and its first use is to be tried; a try's step is done as the making tells, and the next uses of the named rows that stay are to be tried; or a try is idle
pub data Deed : Type 0 where
  arrives : NewRow → List IndexTry → Deed
  does : IndexTry → Making → List IndexTry → Deed
  idles : IndexTry → Deed

-- an entry says which shards it touches
pub record Entry : Type 0 where
  pub deed : Deed
  pub shards : ℕ → Bool

-- a row after a step is done: one more done step names it, where the step does
abbrev pub counted : Step → SeenRow → SeenRow
counted s q = record { row = q.row; from = q.from; done = cond (names_id q.row.id s) (suc q.done) q.done }

-- what is left of a row after a step with which the rows with these ids leave
abbrev pub left_of : Step → List (List ℕ) → SeenRow → List SeenRow
left_of s gone q = cond (is_one_of q.row.id gone) [] (counted s q ∷ [])

-- the same, where rows in shards that are not touched stay as they are
abbrev pub left_by : (ℕ → Bool) → Step → List (List ℕ) → SeenRow → List SeenRow
left_by touched s gone q = cond (lies_in touched q.row) (left_of s gone q) (q ∷ [])

-- a built-in receiver after a step is done, if its shard is touched
abbrev pub counted_by : (ℕ → Bool) → Step → SeenRow → SeenRow
counted_by touched s q = cond (lies_in touched q.row) (counted s q) q

-- these rows but the first with this id
abbrev pub but_row : List ℕ → List NewRow → List NewRow
but_row x [] = []
but_row x (a ∷ rest) = cond (bytes_eq x a.row.id) rest (a ∷ but_row x rest)

-- these indices but the first that is this one
abbrev pub but_index : ℕ → List ℕ → List ℕ
but_index i [] = []
but_index i (j ∷ js) = cond (eqb i j) js (j ∷ but_index i js)

-- the indices that are to be tried
abbrev pub indices : List IndexTry → List ℕ
indices ts = each (λ t. t.index) ts

-- what is done by a try
abbrev pub did_by_try : IndexTry → Making → DidStep
did_by_try t m = record { index = t.index; step = m.step; offers = m.offers; price = m.price; fault = m.fault; line = m.line }

-- the space after a deed that touches these shards
abbrev pub space_after : Space → (ℕ → Bool) → Deed → Space
space_after space touched (arrives a next) = record {
  work = space.work;
  store = space.store ++ filter (λ q. lies_in touched q.row) (arrived a ∷ []);
  built = space.built;
  arriving = but_row a.row.id space.arriving;
  tries = space.tries ++ indices next;
  done = space.done;
}
space_after space touched (does t m next) = record {
  work = space.work;
  store = flat_map (left_by touched m.step m.gone) space.store;
  built = each (counted_by touched m.step) space.built;
  arriving = space.arriving ++ each (new_row (Some t.index)) m.offers;
  tries = but_index t.index space.tries ++ indices next;
  done = space.done ++ did_by_try t m ∷ [];
}
space_after space touched (idles t) = record { work = space.work; store = space.store; built = space.built; arriving = space.arriving; tries = but_index t.index space.tries; done = space.done }

-- the space after an entry
abbrev pub after : Space → Entry → Space
after space e = space_after space e.shards e.deed

-- the job that a deed takes, and ends
abbrev pub job_of : Deed → Job
job_of (arrives a next) = arrive a
job_of (does t m next) = try_index t
job_of (idles t) = try_index t

-- the jobs that a deed offers
abbrev pub offers_of : Deed → List Job
offers_of (arrives a next) = each try_index next
offers_of (does t m next) = each (λ r. arrive (new_row (Some t.index) r)) m.offers ++ each try_index next
offers_of (idles t) = []

-- what a deed makes of the rows of the shard k, which it touches; where two rows of the shard have one id nothing is said of a step
abbrev pub RowsBecome : Deed → ℕ → List SeenRow → List SeenRow → Type 0
RowsBecome (arrives a next) k x y = IsPermutation (x ++ filter (seen_in k) (arrived a ∷ [])) y
RowsBecome (does t m next) k x y = differ (ids_of (bare x)) ≡ true → IsPermutation (flat_map (left_of m.step m.gone) x) y
RowsBecome (idles t) k x y = IsPermutation x y

-- what it makes of the built-in receivers
abbrev pub built_after : Deed → List SeenRow → List SeenRow
built_after (arrives a next) x = x
built_after (does t m next) x = each (counted m.step) x
built_after (idles t) x = x

-- what a deed makes of the shard k, which it touches
pub record PartBecomes (d : Deed) (k : ℕ) (x y : Part) : Type 0 where
  pub number : y.number ≡ x.number
  pub rows : RowsBecome d k x.rows y.rows
  pub built : y.built ≡ built_after d x.built

-- the step that a deed does, if it does one
abbrev pub did_in : Deed → List DidStep
did_in (arrives a next) = []
did_in (does t m next) = did_by_try t m ∷ []
did_in (idles t) = []

-- the steps that entries do, in order
abbrev pub did_by : List Entry → List DidStep
did_by es = flat_map (λ e. did_in e.deed) es
