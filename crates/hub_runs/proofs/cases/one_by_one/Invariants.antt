use Rattle.std.proofs.Common.{◌≡◌, ◌+◌, length}
use Rattle.std.specs.List.{All}
use Rattle.group_locks.specs.Seats.{AtRest, IsIdle}
use Rattle.hub_runs.proofs.cases.one_by_one.Given as goal

abbrev pub invariant-loop-seat : goal.invariant-loop-seat
invariant-loop-seat g l = record {
  count : length l.done.items + length l.seat-iterator.rest.items ≡ length l.fn.seats.items;
  done : All (λ s. AtRest l.hub.table.shared.table_id s.state) l.done.items;
  each : All (λ s. IsIdle l.hub.table.shared.table_id s.state) l.seat-iterator.rest.items;
}
