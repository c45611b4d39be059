use Rattle.std.proofs.Common.{◌≡◌, ◌≤◌, ◌+◌, List, length, map}
use Rattle.std.specs.Prelude.{All}
use Rattle.std.specs.Map.{keys_of}
use Rattle.next_states.specs.Pairs.{Pair, IsRight}
use Rattle.next_states.specs.Walks.{Holds}
use Rattle.next_states.proofs.changed.Changed.into_groups.Given as goal

abbrev pub invariant-loop-key : goal.invariant-loop-key
invariant-loop-key g l = record {
  keys : map (λ g. g.key.0) l.groups.items ≡ keys_of l.yielded;
  right : (ps : List Pair) → Holds l.fn.self ps → All (IsRight ps) l.groups.items;
  counted : l.steps ≤ l.fn.steps + length l.groups.items;
}
