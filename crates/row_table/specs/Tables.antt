-- Rows filed by their ids, and their ids by channel.
use Rattle.std.specs.Prelude.{◌≡◌, ◌<◌, ◌+◌, ℕ, cond, List, [], ◌∷◌, map as each}
use Rattle.std.specs.List.{AllByRecursion}
use Rattle.std.specs.List.Sorted.{IsStrictlySortedBy}
use Rattle.std.specs.Ordering.{nat_cmp}
use Rattle.std.specs.Cmp.Lexicographic.{slice_cmp}
use Rattle.std.specs.Map.{keys_of}
use Rattle.std.specs.declared.alloc.Global.{Global}
use Rattle.std.specs.declared.vec.Vec.{Vec}
use Rattle.calculus.specs.Code.{code}
use Rattle.calculus.specs.Rows.{Row, channels}
use Rattle.calculus.specs.Storing.{IsStorable}
use Rattle.row_search.specs.Rows.{IsIn}
use Rattle.row_shards.specs.Counted.{AreCounted}
use Rattle.shard_counts.specs.Counts.{added}
use Rattle.shard_counts.specs.Keyed.{count_of}
use Rattle.shard_counts.specs.declared.keyed.ShardCounts.{ShardCounts}
use Rattle.row_table.specs.declared.table.Filed.{Filed}
use Rattle.row_table.specs.Groups.{is_send, Index, HasId}

-- the rows, in the order of their ids
abbrev pub rows_in : List (List ℕ × Filed) → List Row
rows_in es = each (λ e. e.1.row) es

-- a row, which may be stored, stands under its id, with the codes of its channels as keys, and each of their groups has its id: those of sends for a send, and else those of receivers; and the shards are known that it is counted for
pub record IsFiled (sends receivers : Index) (e : List ℕ × Filed) : Type 0 where
  pub id : e.0 ≡ e.1.row.id
  pub storable : IsStorable e.1.row
  pub keys : each (λ k. k.items) e.1.keys.items ≡ each code (channels e.1.row.part)
  pub found : (k : Vec ℕ Global) → IsIn k e.1.keys.items → HasId (cond (is_send e.1.row) sends receivers) k.items e.1.row.id
  pub counted : AreCounted e.1.row e.1.counted

-- how many of the shard s the filed rows are counted for under the key k
abbrev pub total : List (List ℕ × Filed) → List ℕ → ℕ → ℕ
total [] k s = 0
total (e ∷ es) k s = added e.1.keys.items e.1.counted k s + total es k s

-- each row is filed and counted, and no two have one id
pub record IsTable (rows : List (List ℕ × Filed)) (sends receivers : Index) (shards : ShardCounts) : Type 0 where
  pub ordered : IsStrictlySortedBy (slice_cmp nat_cmp) (keys_of rows)
  pub filed : AllByRecursion (IsFiled sends receivers) rows
  pub counted : (k : Vec ℕ Global) (s : ℕ) → s < 64 → count_of shards k.items s ≡ total rows k.items s
