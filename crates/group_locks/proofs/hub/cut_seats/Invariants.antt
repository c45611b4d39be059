use Rattle.std.proofs.Common.{◌≡◌, ◌≤◌, ◌+◌, ◌-◌, [], length, vec_len, vec_capacity}
use Rattle.std.specs.List.{All}
use Rattle.hub_rule.specs.Rule.{newcomer}
use Rattle.group_locks.proofs.hub.cut_seats.Given as goal

abbrev pub invariant-loop-number : goal.invariant-loop-number
invariant-loop-number g l = record {
  table : l.token.table_id ≡ l.board.table_id;
  me : l.token.me ≡ (newcomer (l.seats + 1 - l.number), []);
  count : length l.made.items + 1 ≡ l.number;
  len : vec_len l.made + 1 ≡ l.number;
  room : l.seats ≤ vec_capacity l.made;
  each : All (λ s. (s.state.token.table_id ≡ l.board.table_id) × (s.state.token.me.0 ≡ newcomer 1)) l.made.items;
}
