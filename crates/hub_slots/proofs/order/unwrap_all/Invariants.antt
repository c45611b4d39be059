use Rattle.std.proofs.Common.{◌≡◌, ◌++◌, map, Some, vec_capacity}
use Rattle.hub_slots.proofs.order.unwrap_all.Given as goal

abbrev pub invariant-loop-place : goal.invariant-loop-place
invariant-loop-place g l = record {
  all : map (λ x. Some x) l.out.items ++ l.place-iterator.rest.items ≡ l.fn.places.items;
  room : vec_capacity l.out ≡ vec_capacity l.fn.out;
}
