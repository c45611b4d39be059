use Rattle.std.proofs.Common.{◌≡◌, ◌≤◌, ◌<◌, ℕ, None}
use Rattle.std.specs.Prelude.{IsSome}
use Rattle.replay_slots.specs.Hands.{shard_at}
use Rattle.rig_tables.proofs.racing.empty_hand.Given as goal

abbrev pub invariant-loop-number : goal.invariant-loop-number
invariant-loop-number l = record { there : (k : ℕ) → k < l.number → IsSome (shard_at l.held k); rest : (k : ℕ) → l.number ≤ k → shard_at l.held k ≡ None }
