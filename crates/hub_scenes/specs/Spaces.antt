-- What a replay keeps between its entries, and its 64 shards.
use Rattle.std.specs.Prelude.{◌≡◌, ◌⊎◌, ℕ, Bool, List, [], ◌∷◌, filter, map as each, Option, None, IsPermutation}
use Rattle.std.specs.List.{list_all}
use Rattle.calculus.specs.declared.fault.FaultKind.{FaultKind}
use Rattle.calculus.specs.Tree.{Tree}
use Rattle.calculus.specs.Log.{Step}
use Rattle.calculus.specs.Rows.{Row, stdout, stdout_ack}
use Rattle.calculus.specs.Unfolding.{rows_of}
use Rattle.calculus.specs.Runs.{Deploy, Work, work_products}
use Rattle.events.specs.Shards.{shards_of, stands_in}

-- a row that has arrived or is built in, the step that offered it, and how many done steps name it; a row of the checkpoint and one that the source offered have no such step
pub record SeenRow : Type 0 where
  pub row : Row
  pub from : Option ℕ
  pub done : ℕ

-- a row that is to arrive, and the step that offered it
pub record NewRow : Type 0 where
  pub row : Row
  pub from : Option ℕ

-- the index of a step that is to be tried, with a channel of one of its rows
pub record IndexTry : Type 0 where
  pub index : ℕ
  pub channel : Tree

-- a thing to do: a row is to arrive, or an index is to be tried
pub data Job : Type 0 where
  arrive : NewRow → Job
  try_index : IndexTry → Job

-- a step that is done: its index, the step, the rows that its body offers, the price of the step with its body, the body's fault, and the line that is printed
pub record DidStep : Type 0 where
  pub index : ℕ
  pub step : Step
  pub offers : List Row
  pub price : ℕ
  pub fault : Option FaultKind
  pub line : List ℕ

-- a shard: its number, the rows in it, and the built-in receivers in it
pub record Part : Type 0 where
  pub number : ℕ
  pub rows : List SeenRow
  pub built : List SeenRow

-- the source's work, the rows that have arrived, the built-in receivers, the rows that are to arrive, the indices that are to be tried, and what is done, in order
pub record Space : Type 0 where
  pub work : Work
  pub store : List SeenRow
  pub built : List SeenRow
  pub arriving : List NewRow
  pub tries : List ℕ
  pub done : List DidStep

-- a row that no step offered and that none names yet
abbrev pub standing_row : Row → SeenRow
standing_row r = record { row = r; from = None; done = 0 }

-- a row that is to arrive, offered by this step
abbrev pub new_row : Option ℕ → Row → NewRow
new_row f r = record { row = r; from = f }

-- a row as it arrives
abbrev pub arrived : NewRow → SeenRow
arrived a = record { row = a.row; from = a.from; done = 0 }

-- the rows themselves
abbrev pub bare : List SeenRow → List Row
bare qs = each (λ q. q.row) qs

-- the space before the first entry: a checkpoint's rows, and what the source offers is to arrive
abbrev pub first_space : Deploy → Work → Space
first_space deploy w = record {
  work = w;
  store = each standing_row deploy.rows;
  built = each standing_row (stdout ∷ stdout_ack ∷ []);
  arriving = each (new_row None) (rows_of (work_products w));
  tries = [];
  done = [];
}

-- the steps of what is done
abbrev pub steps_did : List DidStep → List Step
steps_did ds = each (λ d. d.step) ds

-- it is one of these
abbrev pub IsIn : {A : Type 0} → A → List A → Type 0
IsIn x [] = ⊥
IsIn x (y ∷ ys) = (x ≡ y) ⊎ IsIn x ys

-- whether a row that is seen stands in the shard k
abbrev pub seen_in : ℕ → SeenRow → Bool
seen_in k q = stands_in k q.row

-- whether all shards that a row stands in are among these
abbrev pub lies_in : (ℕ → Bool) → Row → Bool
lies_in touched r = list_all touched (shards_of r)

-- the shard k of a space: the rows that stand in it, up to order, and the built-in receivers that do
pub record IsPart (space : Space) (k : ℕ) (x : Part) : Type 0 where
  pub number : x.number ≡ k
  pub rows : IsPermutation (filter (seen_in k) space.store) x.rows
  pub built : x.built ≡ filter (seen_in k) space.built
