use Rattle.std.proofs.Common.{◌≡◌, ◌*◌, ◌+◌, ◌^◌, ◌<◌, map, drop}
use Rattle.calculus.specs.Tree.{trees, weight, weights}
use Rattle.rho_term.specs.Parts.{pat_part_tree, pair_tree}
use Rattle.rho_term.specs.Sizes.{in_u64}
use Rattle.term_bounds.specs.Bound.{bound_counts}
use Rattle.term_bounds.proofs.bound.+pattern.Given as goal

abbrev pub invariant-pat_bound-loop-part : goal.invariant-pat_bound-loop-part
invariant-pat_bound-loop-part l = (l.total < 2 ^ 64) × (in_u64 (l.total + bound_counts (trees (map pat_part_tree (drop l.part-index l.parts)))) ≡ in_u64 (bound_counts (trees (map pat_part_tree l.parts))))

abbrev pub decreases-pat_bound : goal.decreases-pat_bound
decreases-pat_bound l = 2 * weight l.pat.now

abbrev pub decreases-pat_part_bound : goal.decreases-pat_part_bound
decreases-pat_part_bound l = 2 * weight (pat_part_tree l.part.now) + 1

abbrev pub invariant-pats_bound-loop-pat : goal.invariant-pats_bound-loop-pat
invariant-pats_bound-loop-pat l = (l.total < 2 ^ 64) × (in_u64 (l.total + bound_counts (trees (drop l.pat-index l.pats.items))) ≡ in_u64 (bound_counts (trees l.pats.items)))

abbrev pub decreases-pats_bound : goal.decreases-pats_bound
decreases-pats_bound l = 2 * weights (trees l.pats.now.items) + 1

abbrev pub invariant-pat_pairs_bound-loop-pair : goal.invariant-pat_pairs_bound-loop-pair
invariant-pat_pairs_bound-loop-pair l = (l.total < 2 ^ 64) × (in_u64 (l.total + bound_counts (trees (map pair_tree (drop l.pair-index l.pairs.items)))) ≡ in_u64 (bound_counts (trees (map pair_tree l.pairs.items))))

abbrev pub decreases-pat_pairs_bound : goal.decreases-pat_pairs_bound
decreases-pat_pairs_bound l = 2 * weights (trees (map pair_tree l.pairs.now.items)) + 1
