use Rattle.std.proofs.Common.{◌≡◌, ◌++◌, List}
use Rattle.std.specs.Vec.Iter.{into_iter_items}
use Rattle.hub_rule.specs.Works.{Laid}
use Rattle.hub_slots.proofs.slots.slots_of.Given as goal

abbrev pub invariant-loop : goal.invariant-loop
invariant-loop g l = (done : List _) × Laid l.counter l.fn.shards.items done l.slots.items × (done ++ into_iter_items l.works ≡ l.fn.work.items)
