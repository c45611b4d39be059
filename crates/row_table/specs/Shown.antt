-- What the receives of a table show.
use Rattle.std.specs.Prelude.{ℕ, Bool, ◌&&◌, List}
use Rattle.std.specs.List.{list_any}
use Rattle.calculus.specs.Tree.{Tree}
use Rattle.calculus.specs.Rows.{Row}
use Rattle.row_search.specs.Rows.{is_heard_on}
use Rattle.events.specs.Shards.{stands_in}

-- whether a receive among these rows with a bind on this channel stands in the shard k
abbrev pub heard_on : List Row → Tree → ℕ → Bool
heard_on rows c k = list_any (λ r. is_heard_on c r && stands_in k r) rows
