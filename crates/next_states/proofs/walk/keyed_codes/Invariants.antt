use Rattle.std.proofs.Common.{◌≡◌, ◌++◌, length}
use Rattle.std.specs.Vec.Iter.{into_iter_items, into_iter_len}
use Rattle.next_states.specs.Walks.{Once, TakesAll}
use Rattle.next_states.proofs.walk.keyed_codes.Given as goal

abbrev pub invariant-loop-coded : goal.invariant-loop-coded
invariant-loop-coded l = record {
  whole : l.yielded ++ into_iter_items l.coded-iterator ≡ into_iter_items l.initial.coded-iterator;
  left : into_iter_len l.coded-iterator ≡ length (into_iter_items l.coded-iterator);
  taken : Once l.fn.walk.changed l.walk.changed (TakesAll l.yielded l.fn.walk l.walk l.keyed.items);
}
