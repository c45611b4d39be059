use Rattle.std.proofs.Common.{map, take, ◌*◌, ◌+◌}
use Rattle.rho_term.specs.Parts.{part_tree, pat_part_tree, pair_tree, bind_tree, case_tree}
use Rattle.calculus.specs.Tree.{weight, weights, trees}
use Rattle.term_encoder.specs.Writing.{Writes}
use Rattle.term_encoder.proofs.Writing.{all_codes}
use Rattle.term_encoder.proofs.encode.+put.Given as goal

abbrev pub invariant-put_term-loop-part : goal.invariant-put_term-loop-part
invariant-put_term-loop-part l = Writes l.initial.out l.out (all_codes (map part_tree (take l.part-index l.parts)))

abbrev pub decreases-put_term : goal.decreases-put_term
decreases-put_term l = 2 * weight l.term.now

abbrev pub decreases-put_part : goal.decreases-put_part
decreases-put_part l = 2 * weight (part_tree l.part.now)

abbrev pub invariant-put_pat-loop-part : goal.invariant-put_pat-loop-part
invariant-put_pat-loop-part l = Writes l.initial.out l.out (all_codes (map pat_part_tree (take l.part-index l.parts)))

abbrev pub decreases-put_pat : goal.decreases-put_pat
decreases-put_pat l = 2 * weight l.pat.now

abbrev pub decreases-put_pat_part : goal.decreases-put_pat_part
decreases-put_pat_part l = 2 * weight (pat_part_tree l.part.now) + 1

abbrev pub invariant-put_terms-loop-term : goal.invariant-put_terms-loop-term
invariant-put_terms-loop-term l = Writes l.initial.out l.out (all_codes (map (λ t. t) (take l.term-index l.terms.items)))

abbrev pub decreases-put_terms : goal.decreases-put_terms
decreases-put_terms l = 2 * weights (trees l.terms.now.items) + 1

abbrev pub invariant-put_pairs-loop-pair : goal.invariant-put_pairs-loop-pair
invariant-put_pairs-loop-pair l = Writes l.initial.out l.out (all_codes (map pair_tree (take l.pair-index l.pairs.items)))

abbrev pub decreases-put_pairs : goal.decreases-put_pairs
decreases-put_pairs l = 2 * weights (trees (map pair_tree l.pairs.now.items)) + 1

abbrev pub invariant-put_binds-loop-bind : goal.invariant-put_binds-loop-bind
invariant-put_binds-loop-bind l = Writes l.initial.out l.out (all_codes (map bind_tree (take l.bind-index l.binds.items)))

abbrev pub decreases-put_binds : goal.decreases-put_binds
decreases-put_binds l = 2 * weights (trees (map bind_tree l.binds.now.items)) + 1

abbrev pub invariant-put_cases-loop-case : goal.invariant-put_cases-loop-case
invariant-put_cases-loop-case l = Writes l.initial.out l.out (all_codes (map case_tree (take l.case-index l.cases.items)))

abbrev pub decreases-put_cases : goal.decreases-put_cases
decreases-put_cases l = 2 * weights (trees (map case_tree l.cases.now.items)) + 1

abbrev pub invariant-put_pats-loop-pat : goal.invariant-put_pats-loop-pat
invariant-put_pats-loop-pat l = Writes l.initial.out l.out (all_codes (map (λ t. t) (take l.pat-index l.pats.items)))

abbrev pub decreases-put_pats : goal.decreases-put_pats
decreases-put_pats l = 2 * weights (trees l.pats.now.items) + 1

abbrev pub invariant-put_pat_pairs-loop-pair : goal.invariant-put_pat_pairs-loop-pair
invariant-put_pat_pairs-loop-pair l = Writes l.initial.out l.out (all_codes (map pair_tree (take l.pair-index l.pairs.items)))

abbrev pub decreases-put_pat_pairs : goal.decreases-put_pat_pairs
decreases-put_pat_pairs l = 2 * weights (trees (map pair_tree l.pairs.now.items)) + 1
