use Rattle.std.proofs.Common.{◌≡◌, ◌+◌, ◌^◌, ◌<◌, map, drop}
use Rattle.calculus.specs.Tree.{trees}
use Rattle.rho_term.specs.Parts.{bind_tree}
use Rattle.rho_term.specs.Sizes.{in_u64}
use Rattle.term_bounds.specs.Bound.{bound_counts}
use Rattle.term_bounds.proofs.bound.binds_bound.Given as goal

abbrev pub invariant-loop-bind : goal.invariant-loop-bind
invariant-loop-bind l = (l.total < 2 ^ 64) × (in_u64 (l.total + bound_counts (trees (map bind_tree (drop l.bind-index l.binds.items)))) ≡ in_u64 (bound_counts (trees (map bind_tree l.binds.items))))
