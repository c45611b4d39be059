use Rattle.std.proofs.Common.{◌≡◌, ◌*◌, ◌+◌, ◌^◌, ◌<◌, map, drop}
use Rattle.calculus.specs.Tree.{trees, weight, weights}
use Rattle.rho_term.specs.Parts.{part_tree, pair_tree}
use Rattle.rho_term.specs.Sizes.{in_u64}
use Rattle.term_bounds.specs.Bound.{bound_counts}
use Rattle.term_bounds.proofs.bound.+bound.Given as goal

abbrev pub invariant-term_bound-loop-part : goal.invariant-term_bound-loop-part
invariant-term_bound-loop-part l = (l.total < 2 ^ 64) × (in_u64 (l.total + bound_counts (trees (map part_tree (drop l.part-index l.parts)))) ≡ in_u64 (bound_counts (trees (map part_tree l.parts))))

abbrev pub decreases-term_bound : goal.decreases-term_bound
decreases-term_bound l = 2 * weight l.term.now

abbrev pub decreases-part_bound : goal.decreases-part_bound
decreases-part_bound l = 2 * weight (part_tree l.part.now)

abbrev pub invariant-terms_bound-loop-term : goal.invariant-terms_bound-loop-term
invariant-terms_bound-loop-term l = (l.total < 2 ^ 64) × (in_u64 (l.total + bound_counts (trees (drop l.term-index l.terms.items))) ≡ in_u64 (bound_counts (trees l.terms.items)))

abbrev pub decreases-terms_bound : goal.decreases-terms_bound
decreases-terms_bound l = 2 * weights (trees l.terms.now.items) + 1

abbrev pub invariant-pairs_bound-loop-pair : goal.invariant-pairs_bound-loop-pair
invariant-pairs_bound-loop-pair l = (l.total < 2 ^ 64) × (in_u64 (l.total + bound_counts (trees (map pair_tree (drop l.pair-index l.pairs.items)))) ≡ in_u64 (bound_counts (trees (map pair_tree l.pairs.items))))

abbrev pub decreases-pairs_bound : goal.decreases-pairs_bound
decreases-pairs_bound l = 2 * weights (trees (map pair_tree l.pairs.now.items)) + 1
