use Rattle.std.proofs.Common.{◌≡◌, ℕ, None}
use Rattle.group_locks.specs.Seats.{IsIdle}
use Rattle.play_worker.proofs.worker.work_through.Given as goal

abbrev pub invariant-loop : goal.invariant-loop
invariant-loop g l = record {
  idle : IsIdle l.hub.table.shared.table_id l.seat.state;
  empty : (k : ℕ) → g.T.ShardTables.in_hand l.held k ≡ None;
}
