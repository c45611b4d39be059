use Rattle.std.proofs.Common.{◌≡◌, ℕ, ◌≤◌, length}
use Rattle.hub_rule.specs.Counts.{count, placed, all_of}
use Rattle.hub_slots.proofs.order.place_lists.Given as goal

abbrev pub invariant-loop-list : goal.invariant-loop-list
invariant-loop-list g l = record {
  rest : placed l.places.items (all_of (λ t. t.items) l.list-iterator.rest.items) ≡ placed l.fn.places.items (all_of (λ t. t.items) l.fn.lists.items);
  long : length l.places.items ≡ length l.fn.places.items;
  within : (n : ℕ) → length l.fn.places.items ≤ n → count n (all_of (λ t. t.items) l.list-iterator.rest.items) ≡ 0;
}
