use Rattle.std.proofs.Common.{◌≡◌, ◌≤◌, ◌<◌, ℕ, [], get_or, length}
use Rattle.shard_tables.specs.Hands.{GainsRow}
use Rattle.rspace_table.proofs.spreading.spread.Given as goal

abbrev pub invariant-loop-number : goal.invariant-loop-number
invariant-loop-number l = record {
  length : length l.shards.items ≡ 64;
  made : (k : ℕ) → k < l.number → GainsRow l.row k (get_or l.initial.shards.items k []) (get_or l.shards.items k []);
  left : (k : ℕ) → l.number ≤ k → get_or l.shards.items k [] ≡ get_or l.initial.shards.items k [];
}
