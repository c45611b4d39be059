use Rattle.std.proofs.Common.{◌≡◌, ◌<◌, ◌+◌, ◌^◌, drop, length}
use Rattle.hub_rule.specs.Counts.{total}
use Rattle.group_locks.specs.Seats.{drawn_by}
use Rattle.group_locks.proofs.Rooms.{Standing}
use Rattle.group_locks.proofs.close.room_to_end.Given as goal

abbrev pub invariant-loop-seat : goal.invariant-loop-seat
invariant-loop-seat g l = record {
  count : l.count + total (λ s. length (drawn_by s.state)) (drop l.seat-index l.seats.items) ≡ total (λ s. length (drawn_by s.state)) l.seats.items;
  low : l.standing < 2 ^ 64;
  standing : Standing (λ s. s.state) l.seats.items l.seat-index l.start l.standing;
}
