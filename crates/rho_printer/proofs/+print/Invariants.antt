use Rattle.std.proofs.Common.{◌*◌, ◌+◌, map, codes}
use Rattle.calculus.specs.Form.{term, part, a_bind, a_case, pat, name_pat, pat_part, name_part, pair_of}
use Rattle.calculus.specs.Tree.{weight, weights, trees}
use Rattle.rho_term.specs.Parts.{part_tree, pat_part_tree, pair_tree, bind_tree, case_tree}
use Rattle.printed_leaves.specs.Texts.{text_of, bind_text_of, Wrote}
use Rattle.printed_leaves.proofs.Lists.{StillWrites, StillFrom}
use Rattle.rho_printer.proofs.+print.Given as goal

abbrev pub invariant-terms::put_term-loop-i : goal.invariant-terms::put_term-loop-i
invariant-terms::put_term-loop-i l = Wrote l.initial.page l.page (λ old new. StillWrites (λ t n. text_of part t l.depth n) part (codes " | ") (map part_tree l.parts) l.i new old)

abbrev pub decreases-terms::put_term : goal.decreases-terms::put_term
decreases-terms::put_term l = 4 * weight l.term.now

abbrev pub decreases-terms::put_operand : goal.decreases-terms::put_operand
decreases-terms::put_operand l = 4 * weight l.term.now + 1

abbrev pub decreases-terms::put_name : goal.decreases-terms::put_name
decreases-terms::put_name l = 4 * weight l.term.now + 2

abbrev pub invariant-terms::put_terms-loop-i : goal.invariant-terms::put_terms-loop-i
invariant-terms::put_terms-loop-i l = Wrote l.initial.page l.page (λ old new. StillWrites (λ t n. text_of term t l.depth n) term (codes ", ") l.terms l.i new old)

abbrev pub decreases-terms::put_terms : goal.decreases-terms::put_terms
decreases-terms::put_terms l = 4 * weights (trees l.terms.now) + 1

abbrev pub invariant-terms::put_pairs-loop-i : goal.invariant-terms::put_pairs-loop-i
invariant-terms::put_pairs-loop-i l = Wrote l.initial.page l.page (λ old new. StillWrites (λ t n. text_of (pair_of term) t l.depth n) (pair_of term) (codes ", ") (map pair_tree l.pairs) l.i new old)

abbrev pub decreases-terms::put_pairs : goal.decreases-terms::put_pairs
decreases-terms::put_pairs l = 4 * weights (trees (map pair_tree l.pairs.now)) + 1

abbrev pub decreases-parts::put_part : goal.decreases-parts::put_part
decreases-parts::put_part l = 4 * weight (part_tree l.part.now)

abbrev pub decreases-parts::put_unary : goal.decreases-parts::put_unary
decreases-parts::put_unary l = 4 * weight l.arg.now + 2

abbrev pub invariant-binds::put_binds-loop-i : goal.invariant-binds::put_binds-loop-i
invariant-binds::put_binds-loop-i l = Wrote l.initial.page l.page (λ old new. StillFrom (λ t n. bind_text_of l.kind t l.depth n) a_bind (codes " & ") (map bind_tree l.binds) l.i l.next new l.depth l.depth old)

abbrev pub decreases-binds::put_binds : goal.decreases-binds::put_binds
decreases-binds::put_binds l = 4 * weights (trees (map bind_tree l.binds.now)) + 1

abbrev pub decreases-binds::put_bind : goal.decreases-binds::put_bind
decreases-binds::put_bind l = 4 * weight (bind_tree l.bind.now)

abbrev pub invariant-binds::put_cases-loop-i : goal.invariant-binds::put_cases-loop-i
invariant-binds::put_cases-loop-i l = Wrote l.initial.page l.page (λ old new. StillWrites (λ t n. text_of a_case t l.depth n) a_case (codes " ") (map case_tree l.cases) l.i new old)

abbrev pub decreases-binds::put_cases : goal.decreases-binds::put_cases
decreases-binds::put_cases l = 4 * weights (trees (map case_tree l.cases.now)) + 1

abbrev pub invariant-patterns::put_pat-loop-i : goal.invariant-patterns::put_pat-loop-i
invariant-patterns::put_pat-loop-i l = Wrote l.initial.page l.page (λ old new. StillFrom (λ t n. text_of pat_part t l.depth n) name_part (codes " | ") (map pat_part_tree l.parts) l.i l.number new l.depth l.next old)

abbrev pub decreases-patterns::put_pat : goal.decreases-patterns::put_pat
decreases-patterns::put_pat l = 4 * weight l.pattern.now

abbrev pub decreases-patterns::put_pat_operand : goal.decreases-patterns::put_pat_operand
decreases-patterns::put_pat_operand l = 4 * weight l.pattern.now + 1

abbrev pub decreases-patterns::put_name_pat : goal.decreases-patterns::put_name_pat
decreases-patterns::put_name_pat l = 4 * weight l.pattern.now + 2

abbrev pub invariant-patterns::put_name_pats-loop-i : goal.invariant-patterns::put_name_pats-loop-i
invariant-patterns::put_name_pats-loop-i l = Wrote l.initial.page l.page (λ old new. StillFrom (λ t n. text_of name_pat t l.depth n) name_pat (codes ", ") l.patterns l.i l.number new l.depth l.next old)

abbrev pub decreases-patterns::put_name_pats : goal.decreases-patterns::put_name_pats
decreases-patterns::put_name_pats l = 4 * weights (trees l.patterns.now) + 3

abbrev pub invariant-patterns::put_pats-loop-i : goal.invariant-patterns::put_pats-loop-i
invariant-patterns::put_pats-loop-i l = Wrote l.initial.page l.page (λ old new. StillFrom (λ t n. text_of pat t l.depth n) pat (codes ", ") l.patterns l.i l.number new l.depth l.next old)

abbrev pub decreases-patterns::put_pats : goal.decreases-patterns::put_pats
decreases-patterns::put_pats l = 4 * weights (trees l.patterns.now) + 1

abbrev pub invariant-patterns::put_pat_pairs-loop-i : goal.invariant-patterns::put_pat_pairs-loop-i
invariant-patterns::put_pat_pairs-loop-i l = Wrote l.initial.page l.page (λ old new. StillFrom (λ t n. text_of (pair_of pat) t l.depth n) (pair_of pat) (codes ", ") (map pair_tree l.pairs) l.i l.number new l.depth l.next old)

abbrev pub decreases-patterns::put_pat_pairs : goal.decreases-patterns::put_pat_pairs
decreases-patterns::put_pat_pairs l = 4 * weights (trees (map pair_tree l.pairs.now)) + 1

abbrev pub decreases-pattern_parts::put_pat_part : goal.decreases-pattern_parts::put_pat_part
decreases-pattern_parts::put_pat_part l = 4 * weight (pat_part_tree l.part.now) + 1

abbrev pub decreases-pattern_parts::put_joined : goal.decreases-pattern_parts::put_joined
decreases-pattern_parts::put_joined l = 4 * (weight l.left.now + weight l.right.now) + 2
