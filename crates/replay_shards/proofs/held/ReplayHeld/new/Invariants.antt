use Rattle.std.proofs.Common.{◌≡◌, ℕ, length, get_or}
use Rattle.std.specs.Prelude.{None}
use Rattle.replay_shards.proofs.held.ReplayHeld.new.Given as goal

abbrev pub invariant-loop : goal.invariant-loop
invariant-loop l = (length l.slots.items ≡ l.counter) × ((k : ℕ) → get_or l.slots.items k None ≡ None)
