use Rattle.std.proofs.Common.{◌≡◌, ℕ, ◌≤◌, length}
use Rattle.hub_rule.specs.Counts.{count, placed}
use Rattle.hub_slots.proofs.order.place_all.Given as goal

abbrev pub invariant-loop-number : goal.invariant-loop-number
invariant-loop-number g l = record {
  rest : placed l.places.items l.number-iterator.rest.items ≡ placed l.fn.places.items l.fn.things.items;
  long : length l.places.items ≡ length l.fn.places.items;
  within : (n : ℕ) → length l.fn.places.items ≤ n → count n l.number-iterator.rest.items ≡ 0;
}
