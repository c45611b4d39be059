use Rattle.std.proofs.Common.{◌≡◌, ◌++◌, vec_capacity}
use Rattle.hub_rule.proofs.moving.move_all.Given as goal

abbrev pub invariant-loop-thing : goal.invariant-loop-thing
invariant-loop-thing g l = record {
  all : l.all.items ++ l.thing-iterator.rest.items ≡ l.initial.all.items ++ l.fn.things.items;
  room : vec_capacity l.all ≡ vec_capacity l.initial.all;
}
