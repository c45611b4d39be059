use Rattle.std.proofs.Common.{◌≡◌, ℕ, ◌-◌, ◌≤◌, ◌<◌, true, false, List, length, take, vec_capacity, slice_index_or}
use Rattle.std.specs.Mem.Slots.{slots_items, slots_len, slots_filled}
use Rattle.hub_rule.specs.Counts.{all_of}
use Rattle.hub_rule.specs.Works.{LiesOn}
use Rattle.hub_slots.proofs.slots.take_left.Given as goal

abbrev pub invariant-loop-desk : goal.invariant-loop-desk
invariant-loop-desk g l = record {
  items : slots_items l.closed.slots ≡ slots_items l.initial.closed.slots;
  len : slots_len l.closed.slots ≡ 96;
  there : (j : ℕ) → l.desk ≤ j → j < 96 → slice_index_or (slots_filled l.closed.slots) j false ≡ true;
  gone : (j : ℕ) → j < l.desk → slice_index_or (slots_filled l.closed.slots) j false ≡ false;
  room : vec_capacity l.left ≡ vec_capacity l.initial.left;
  left : (lists : List (List _)) → length lists ≡ 32 → LiesOn (slots_items l.initial.closed.slots) lists → l.left.items ≡ all_of (λ x. x) (take (l.desk - 64) lists);
}
