use Rattle.std.proofs.Common.{◌≡◌, ◌*◌, ◌+◌, false, map, drop, All}
use Rattle.calculus.specs.Tree.{trees, weight, weights}
use Rattle.rho_term.specs.Normal.{IsOrdered}
use Rattle.rho_term.specs.Parts.{part_tree, pat_part_tree, pair_tree, bind_tree, case_tree}
use Rattle.substitution.specs.Becoming.{BecomeWith, change_of}
use Rattle.substitution.proofs.substitution.+put.Given as goal

abbrev pub decreases-put_term : goal.decreases-put_term
decreases-put_term l = 4 * weight l.term.now

abbrev pub invariant-put_term-loop-part : goal.invariant-put_term-loop-part
invariant-put_term-loop-part l = l.maker.failed ≡ false → (l.fn.maker.failed ≡ false)
    × (BecomeWith (change_of l.replacement) l.depth (map part_tree l.part-items) (map part_tree l.parts.items) (map part_tree (drop l.part-index l.part-items)) × All (λ p. IsOrdered (part_tree p)) l.parts.items)

abbrev pub decreases-put_part : goal.decreases-put_part
decreases-put_part l = 4 * weight (part_tree l.part.now) + 1

abbrev pub decreases-put_form : goal.decreases-put_form
decreases-put_form l = 4 * weight (part_tree l.part.now)

abbrev pub decreases-put_pat : goal.decreases-put_pat
decreases-put_pat l = 4 * weight l.pat.now

abbrev pub invariant-put_pat-loop-part : goal.invariant-put_pat-loop-part
invariant-put_pat-loop-part l = l.maker.failed ≡ false → (l.fn.maker.failed ≡ false)
    × (BecomeWith (change_of l.replacement) l.depth (map pat_part_tree l.part-items) (map pat_part_tree l.parts.items) (map pat_part_tree (drop l.part-index l.part-items)) × All (λ p. IsOrdered (pat_part_tree p)) l.parts.items)

abbrev pub decreases-put_pat_part : goal.decreases-put_pat_part
decreases-put_pat_part l = 4 * weight (pat_part_tree l.part.now) + 3

abbrev pub decreases-put_pat_form : goal.decreases-put_pat_form
decreases-put_pat_form l = 4 * weight (pat_part_tree l.part.now) + 2

abbrev pub invariant-put_terms-loop-term : goal.invariant-put_terms-loop-term
invariant-put_terms-loop-term l = l.maker.failed ≡ false → (l.fn.maker.failed ≡ false)
    × BecomeWith (change_of l.replacement) l.depth l.terms.items l.filled.items (drop l.term-index l.terms.items)

abbrev pub decreases-put_terms : goal.decreases-put_terms
decreases-put_terms l = 4 * weights (trees l.terms.now.items) + 1

abbrev pub invariant-put_pairs-loop-pair : goal.invariant-put_pairs-loop-pair
invariant-put_pairs-loop-pair l = l.maker.failed ≡ false → (l.fn.maker.failed ≡ false)
    × BecomeWith (change_of l.replacement) l.depth (map pair_tree l.pairs.items) (map pair_tree l.filled.items) (map pair_tree (drop l.pair-index l.pairs.items))

abbrev pub decreases-put_pairs : goal.decreases-put_pairs
decreases-put_pairs l = 4 * weights (trees (map pair_tree l.pairs.now.items)) + 1

abbrev pub invariant-put_binds-loop-bind : goal.invariant-put_binds-loop-bind
invariant-put_binds-loop-bind l = l.maker.failed ≡ false → (l.fn.maker.failed ≡ false)
    × BecomeWith (change_of l.replacement) l.depth (map bind_tree l.binds.items) (map bind_tree l.filled.items) (map bind_tree (drop l.bind-index l.binds.items))

abbrev pub decreases-put_binds : goal.decreases-put_binds
decreases-put_binds l = 4 * weights (trees (map bind_tree l.binds.now.items)) + 1

abbrev pub invariant-put_cases-loop-case : goal.invariant-put_cases-loop-case
invariant-put_cases-loop-case l = l.maker.failed ≡ false → (l.fn.maker.failed ≡ false)
    × BecomeWith (change_of l.replacement) l.depth (map case_tree l.cases.items) (map case_tree l.filled.items) (map case_tree (drop l.case-index l.cases.items))

abbrev pub decreases-put_cases : goal.decreases-put_cases
decreases-put_cases l = 4 * weights (trees (map case_tree l.cases.now.items)) + 1

abbrev pub invariant-put_pats-loop-pat : goal.invariant-put_pats-loop-pat
invariant-put_pats-loop-pat l = l.maker.failed ≡ false → (l.fn.maker.failed ≡ false)
    × BecomeWith (change_of l.replacement) l.depth l.pats.items l.filled.items (drop l.pat-index l.pats.items)

abbrev pub decreases-put_pats : goal.decreases-put_pats
decreases-put_pats l = 4 * weights (trees l.pats.now.items) + 1

abbrev pub invariant-put_pat_pairs-loop-pair : goal.invariant-put_pat_pairs-loop-pair
invariant-put_pat_pairs-loop-pair l = l.maker.failed ≡ false → (l.fn.maker.failed ≡ false)
    × BecomeWith (change_of l.replacement) l.depth (map pair_tree l.pairs.items) (map pair_tree l.filled.items) (map pair_tree (drop l.pair-index l.pairs.items))

abbrev pub decreases-put_pat_pairs : goal.decreases-put_pat_pairs
decreases-put_pat_pairs l = 4 * weights (trees (map pair_tree l.pairs.now.items)) + 1
