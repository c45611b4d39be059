use Rattle.std.proofs.Common.{◌≡◌, ◌-◌, ◌^◌, ℕ, [], None}
use Rattle.group_locks.specs.Seats.{held_by}
use Rattle.play_draws.specs.Turns.{IsSame}
use Rattle.play_worker.proofs.group.take_shown.Given as goal

abbrev pub invariant-loop-shown : goal.invariant-loop-shown
invariant-loop-shown g l = record {
  same : IsSame l.initial.seat.state l.seat.state;
  free : held_by l.seat.state ≡ [];
  empty : (k : ℕ) → g.T.ShardTables.in_hand l.held k ≡ None;
}

-- the group grows
abbrev pub decreases-loop-shown : goal.decreases-loop-shown
decreases-loop-shown g l = 2 ^ 64 - l.group
