use Rattle.std.proofs.Common.{◌≡◌, ◌++◌, length}
use Rattle.std.specs.Vec.Iter.{into_iter_items}
use Rattle.hub_slots.proofs.slots.take_some.Given as goal

abbrev pub invariant-loop : goal.invariant-loop
invariant-loop g l = (l.some.items ++ into_iter_items l.things ≡ into_iter_items l.initial.things) × (length l.some.items ≡ l.counter)
