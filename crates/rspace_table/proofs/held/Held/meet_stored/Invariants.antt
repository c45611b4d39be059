use Rattle.std.proofs.Common.{◌≡◌, ◌<◌, ℕ, List}
use Rattle.std.specs.Prelude.{Some}
use Rattle.calculus.specs.Rows.{Row}
use Rattle.row_search.specs.Meetings.{MeetsNothing}
use Rattle.rspace_table.specs.Hands.{rows_for, shard_at}
use Rattle.rspace_table.proofs.held.Held.meet_stored.Given as goal

abbrev pub invariant-loop-shard : goal.invariant-loop-shard
invariant-loop-shard l = (k : ℕ) (rows : List Row) → k < l.shard-index → shard_at l.shard-items k ≡ Some rows → MeetsNothing (rows_for rows l.self) l.op
