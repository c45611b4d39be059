use Rattle.std.proofs.Common.{◌≡◌, ◌++◌, ◌%◌, ◌^◌, drop}
use Rattle.calculus.specs.Unfolding.{names_made}
use Rattle.unfold.proofs.inner.names_made.Given as goal

abbrev pub invariant-loop-origin : goal.invariant-loop-origin
invariant-loop-origin l = record {
  number : l.number ≡ l.origin-index % 2 ^ 32;
  names : l.values.items ++ names_made l.seed l.origin-index (drop l.origin-index l.names.items) ≡ names_made l.seed 0 l.names.items;
}
