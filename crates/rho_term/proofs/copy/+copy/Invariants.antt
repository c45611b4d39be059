use Rattle.std.proofs.Common.{◌≡◌, ◌++◌, ◌*◌, ◌+◌, false, map, drop}
use Rattle.calculus.specs.Tree.{trees, weight, weights}
use Rattle.rho_term.specs.Parts.{part_tree, pat_part_tree, pair_tree, bind_tree, case_tree}
use Rattle.rho_term.proofs.copy.+copy.Given as goal

abbrev pub decreases-copy_term : goal.decreases-copy_term
decreases-copy_term l = 2 * weight l.term.now

abbrev pub invariant-copy_term-loop-part : goal.invariant-copy_term-loop-part
invariant-copy_term-loop-part l = l.copier.failed ≡ false → (l.fn.copier.failed ≡ false) × (map part_tree l.parts.items ++ map part_tree (drop l.part-index l.part-items) ≡ map part_tree l.part-items)

abbrev pub decreases-copy_part : goal.decreases-copy_part
decreases-copy_part l = 2 * weight (part_tree l.part.now)

abbrev pub decreases-copy_pat : goal.decreases-copy_pat
decreases-copy_pat l = 2 * weight l.pat.now

abbrev pub invariant-copy_pat-loop-part : goal.invariant-copy_pat-loop-part
invariant-copy_pat-loop-part l = l.copier.failed ≡ false → (l.fn.copier.failed ≡ false) × (map pat_part_tree l.parts.items ++ map pat_part_tree (drop l.part-index l.part-items) ≡ map pat_part_tree l.part-items)

abbrev pub decreases-copy_pat_part : goal.decreases-copy_pat_part
decreases-copy_pat_part l = 2 * weight (pat_part_tree l.part.now) + 1

abbrev pub decreases-copy_bind : goal.decreases-copy_bind
decreases-copy_bind l = 2 * weight (bind_tree l.bind.now)

abbrev pub invariant-copy_terms-loop-term : goal.invariant-copy_terms-loop-term
invariant-copy_terms-loop-term l = l.copier.failed ≡ false → (l.fn.copier.failed ≡ false) × (l.copies.items ++ drop l.term-index l.terms.items ≡ l.terms.items)

abbrev pub decreases-copy_terms : goal.decreases-copy_terms
decreases-copy_terms l = 2 * weights (trees l.terms.now.items) + 1

abbrev pub invariant-copy_pairs-loop-pair : goal.invariant-copy_pairs-loop-pair
invariant-copy_pairs-loop-pair l = l.copier.failed ≡ false → (l.fn.copier.failed ≡ false) × (map pair_tree l.copies.items ++ map pair_tree (drop l.pair-index l.pairs.items) ≡ map pair_tree l.pairs.items)

abbrev pub decreases-copy_pairs : goal.decreases-copy_pairs
decreases-copy_pairs l = 2 * weights (trees (map pair_tree l.pairs.now.items)) + 1

abbrev pub invariant-copy_binds-loop-bind : goal.invariant-copy_binds-loop-bind
invariant-copy_binds-loop-bind l = l.copier.failed ≡ false → (l.fn.copier.failed ≡ false) × (map bind_tree l.copies.items ++ map bind_tree (drop l.bind-index l.binds.items) ≡ map bind_tree l.binds.items)

abbrev pub decreases-copy_binds : goal.decreases-copy_binds
decreases-copy_binds l = 2 * weights (trees (map bind_tree l.binds.now.items)) + 1

abbrev pub invariant-copy_cases-loop-case : goal.invariant-copy_cases-loop-case
invariant-copy_cases-loop-case l = l.copier.failed ≡ false → (l.fn.copier.failed ≡ false) × (map case_tree l.copies.items ++ map case_tree (drop l.case-index l.cases.items) ≡ map case_tree l.cases.items)

abbrev pub decreases-copy_cases : goal.decreases-copy_cases
decreases-copy_cases l = 2 * weights (trees (map case_tree l.cases.now.items)) + 1

abbrev pub invariant-copy_pats-loop-pat : goal.invariant-copy_pats-loop-pat
invariant-copy_pats-loop-pat l = l.copier.failed ≡ false → (l.fn.copier.failed ≡ false) × (l.copies.items ++ drop l.pat-index l.pats.items ≡ l.pats.items)

abbrev pub decreases-copy_pats : goal.decreases-copy_pats
decreases-copy_pats l = 2 * weights (trees l.pats.now.items) + 1

abbrev pub invariant-copy_pat_pairs-loop-pair : goal.invariant-copy_pat_pairs-loop-pair
invariant-copy_pat_pairs-loop-pair l = l.copier.failed ≡ false → (l.fn.copier.failed ≡ false) × (map pair_tree l.copies.items ++ map pair_tree (drop l.pair-index l.pairs.items) ≡ map pair_tree l.pairs.items)

abbrev pub decreases-copy_pat_pairs : goal.decreases-copy_pat_pairs
decreases-copy_pat_pairs l = 2 * weights (trees (map pair_tree l.pairs.now.items)) + 1
