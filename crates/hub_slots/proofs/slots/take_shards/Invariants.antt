use Rattle.std.proofs.Common.{◌≡◌, ℕ, ◌≤◌, ◌<◌, true, false, length, vec_capacity, Some, slice_index_or}
use Rattle.std.specs.Prelude.{slice_get}
use mathlib.Core.Option.{some}
use Rattle.hub_rule.specs.declared.slot.Slot.TheVariants.{Shard}
use lib.ListN.{get_elem?}
use Rattle.std.specs.Mem.Slots.{slots_items, slots_len, slots_filled}
use Rattle.hub_slots.proofs.slots.take_shards.Given as goal

abbrev pub invariant-loop-number : goal.invariant-loop-number
invariant-loop-number g l = record {
  items : slots_items l.closed.slots ≡ slots_items l.initial.closed.slots;
  len : slots_len l.closed.slots ≡ 96;
  there : (j : ℕ) → l.number ≤ j → j < 96 → slice_index_or (slots_filled l.closed.slots) j false ≡ true;
  gone : (j : ℕ) → j < l.number → slice_index_or (slots_filled l.closed.slots) j false ≡ false;
  count : length l.out.items ≡ l.number;
  room : 64 ≤ vec_capacity l.out;
  out : (k : ℕ) (x : _) → slice_get l.out.items k ≡ Some x → get_elem? (slots_items l.initial.closed.slots) k ≡ some (Shard (Some x));
}
