use Rattle.std.proofs.Common.{◌≡◌, ◌≤◌, ℕ, [], None}
use Rattle.replay_slots.specs.Hands.{shard_at}
use Rattle.replay_store.specs.Stores.{AreOpenedBelow}
use Rattle.replay_store.proofs.opening.empty_hand.Given as goal

abbrev pub invariant-loop-number : goal.invariant-loop-number
invariant-loop-number l = record { opened : AreOpenedBelow l.number [] l.held; rest : (k : ℕ) → l.number ≤ k → shard_at l.held k ≡ None }
