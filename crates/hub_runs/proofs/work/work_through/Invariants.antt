use Rattle.std.proofs.Common.{◌≡◌, ℕ, None, slice_index_or}
use Rattle.group_locks.specs.Seats.{IsIdle}
use Rattle.hub_runs.proofs.work.work_through.Given as goal

abbrev pub invariant-loop : goal.invariant-loop
invariant-loop g l = record {
  idle : IsIdle l.hub.table.shared.table_id l.seat.state;
  empty : (k : ℕ) → slice_index_or l.hand.rows k None ≡ None;
}
