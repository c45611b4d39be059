use Rattle.std.proofs.Common.{◌≡◌, ◌<◌, ℕ, List}
use Rattle.std.specs.Prelude.{Some}
use Rattle.calculus.specs.Rows.{Row}
use Rattle.rspace_table.specs.Hands.{shard_at, StandIn}
use Rattle.rspace_table.proofs.held.Held.is_in_place.Given as goal

abbrev pub invariant-loop-shard : goal.invariant-loop-shard
invariant-loop-shard l = (l.number ≡ l.shard-index) × ((k : ℕ) (rows : List Row) → k < l.shard-index → shard_at l.shard-items k ≡ Some rows → StandIn k rows)
