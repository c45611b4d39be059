use Rattle.std.proofs.Common.{◌≡◌, drop, map as each}
use Rattle.std.specs.List.{list_any}
use Rattle.replay_rows.specs.Rows.{is_full, seen_row}
use Rattle.replay_slots.proofs.full.is_full_list.Given as goal

abbrev pub invariant-loop-seen : goal.invariant-loop-seen
invariant-loop-seen l = list_any (is_full l.id.0) (each seen_row l.list) ≡ list_any (is_full l.id.0) (each seen_row (drop l.seen-index l.list))
