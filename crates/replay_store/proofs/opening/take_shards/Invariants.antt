use Rattle.std.proofs.Common.{◌≡◌, ◌≤◌, ℕ, length, Some}
use Rattle.std.specs.Prelude.{slice_get}
use Rattle.hub_scenes.specs.Spaces.{Part}
use Rattle.replay_slots.specs.Hands.{shard_at}
use Rattle.replay_store.proofs.opening.take_shards.Given as goal

abbrev pub invariant-loop-number : goal.invariant-loop-number
invariant-loop-number l = record {
  count : length l.shards.items ≡ l.number;
  each : (k : ℕ) (x : Part) → slice_get l.shards.items k ≡ Some x → shard_at l.fn.hand k ≡ Some x;
  rest : (k : ℕ) → l.number ≤ k → shard_at l.held k ≡ shard_at l.fn.hand k;
}
