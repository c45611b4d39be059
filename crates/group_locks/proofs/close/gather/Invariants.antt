use Rattle.std.proofs.Common.{◌≡◌, ◌≤◌, ◌+◌, length, vec_capacity}
use Rattle.std.specs.List.{All}
use Rattle.group_locks.specs.Seats.{AtRest}
use Rattle.group_locks.proofs.Gathering.{Gathered}
use Rattle.group_locks.proofs.close.gather.Given as goal

abbrev pub invariant-loop-seat : goal.invariant-loop-seat
invariant-loop-seat g l = record {
  table : l.token.table_id ≡ l.board.table_id;
  gathered : Gathered (λ s. s.state) l.fn.seats.items l.seat-iterator.rest.items l.lists.items l.token.me;
  room : length l.lists.items + length l.seat-iterator.rest.items ≤ vec_capacity l.lists;
  each : All (λ s. AtRest l.board.table_id s.state) l.seat-iterator.rest.items;
}
