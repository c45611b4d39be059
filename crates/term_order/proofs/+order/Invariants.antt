use Rattle.std.proofs.Common.{◌*◌, ◌+◌, map}
use Rattle.calculus.specs.Form.{term, part, a_bind, a_case, name_pat, name_part, pair_of}
use Rattle.calculus.specs.Tree.{weight, row, list, tuple, set, dict, send, receive, new, match, bundle, unary, binary, method, rest, same, both, either, not_this, list_pattern, set_pattern, map_pattern}
use Rattle.calculus.specs.Shape.{leaf, one, two, many}
use Rattle.rho_term.specs.Parts.{part_tree, pat_part_tree, pair_tree, bind_tree, case_tree}
use Rattle.term_order.proofs.Rows.{Reaches}
use Rattle.term_order.proofs.+order.Given as goal

abbrev pub invariant-parts::parts_order-loop-i : goal.invariant-parts::parts_order-loop-i
invariant-parts::parts_order-loop-i l = Reaches part (map part_tree l.xs) (map part_tree l.ys) l.i

abbrev pub decreases-parts::parts_order : goal.decreases-parts::parts_order
decreases-parts::parts_order l = 8 * weight (many row (map part_tree l.xs.now))

abbrev pub decreases-terms::term_order : goal.decreases-terms::term_order
decreases-terms::term_order l = 8 * weight l.a.now + 1

abbrev pub invariant-terms::then_terms-loop-i : goal.invariant-terms::then_terms-loop-i
invariant-terms::then_terms-loop-i l = Reaches term l.xs l.ys l.i

abbrev pub invariant-pairs::pairs_order-loop-i : goal.invariant-pairs::pairs_order-loop-i
invariant-pairs::pairs_order-loop-i l = Reaches (pair_of term) (map pair_tree l.xs) (map pair_tree l.ys) l.i

abbrev pub decreases-pairs::pairs_order : goal.decreases-pairs::pairs_order
decreases-pairs::pairs_order l = 8 * weight (many row (map pair_tree l.xs.now))

abbrev pub decreases-pairs::pair_order : goal.decreases-pairs::pair_order
decreases-pairs::pair_order l = 8 * weight (pair_tree l.a.now)

abbrev pub decreases-terms::then_term : goal.decreases-terms::then_term
decreases-terms::then_term l = 8 * weight l.a.now + 2

abbrev pub decreases-terms::then_terms : goal.decreases-terms::then_terms
decreases-terms::then_terms l = 8 * weight (many row l.xs.now) + 1

abbrev pub invariant-binds::then_binds-loop-i : goal.invariant-binds::then_binds-loop-i
invariant-binds::then_binds-loop-i l = Reaches a_bind (map bind_tree l.xs) (map bind_tree l.ys) l.i

abbrev pub invariant-binds::then_cases-loop-i : goal.invariant-binds::then_cases-loop-i
invariant-binds::then_cases-loop-i l = Reaches a_case (map case_tree l.xs) (map case_tree l.ys) l.i

abbrev pub decreases-binds::bind_order : goal.decreases-binds::bind_order
decreases-binds::bind_order l = 8 * weight (bind_tree l.a.now)

abbrev pub decreases-binds::case_order : goal.decreases-binds::case_order
decreases-binds::case_order l = 8 * weight (case_tree l.a.now)

abbrev pub decreases-binds::then_binds : goal.decreases-binds::then_binds
decreases-binds::then_binds l = 8 * weight (many row (map bind_tree l.xs.now)) + 1

abbrev pub decreases-binds::then_cases : goal.decreases-binds::then_cases
decreases-binds::then_cases l = 8 * weight (many row (map case_tree l.xs.now)) + 1

abbrev pub decreases-parts::part_order : goal.decreases-parts::part_order
decreases-parts::part_order l = 8 * weight (part_tree l.a.now) + 3

abbrev pub decreases-parts::list_order : goal.decreases-parts::list_order
decreases-parts::list_order l = 8 * weight (many list l.xs.now) + 2

abbrev pub decreases-parts::tuple_order : goal.decreases-parts::tuple_order
decreases-parts::tuple_order l = 8 * weight (many tuple l.xs.now) + 2

abbrev pub decreases-parts::set_order : goal.decreases-parts::set_order
decreases-parts::set_order l = 8 * weight (many set l.xs.now) + 2

abbrev pub decreases-parts::map_order : goal.decreases-parts::map_order
decreases-parts::map_order l = 8 * weight (many dict (map pair_tree l.xs.now)) + 2

abbrev pub decreases-parts::send_order : goal.decreases-parts::send_order
decreases-parts::send_order l = 8 * weight (two (send l.persistent) l.channel.now (many row l.args.now)) + 2

abbrev pub decreases-parts::receive_order : goal.decreases-parts::receive_order
decreases-parts::receive_order l = 8 * weight (two (receive l.kind) (many row (map bind_tree l.binds.now)) l.body.now) + 2

abbrev pub decreases-parts::new_order : goal.decreases-parts::new_order
decreases-parts::new_order l = 8 * weight (one (new l.names.now) l.body.now) + 2

abbrev pub decreases-parts::match_order : goal.decreases-parts::match_order
decreases-parts::match_order l = 8 * weight (two match l.target.now (many row (map case_tree l.cases.now))) + 2

abbrev pub decreases-parts::bundle_order : goal.decreases-parts::bundle_order
decreases-parts::bundle_order l = 8 * weight (one (bundle l.rights) l.body.now) + 2

abbrev pub decreases-parts::unary_order : goal.decreases-parts::unary_order
decreases-parts::unary_order l = 8 * weight (one (unary l.op) l.arg.now) + 2

abbrev pub decreases-parts::binary_order : goal.decreases-parts::binary_order
decreases-parts::binary_order l = 8 * weight (two (binary l.op) l.left.now l.right.now) + 2

abbrev pub decreases-parts::method_order : goal.decreases-parts::method_order
decreases-parts::method_order l = 8 * weight (two (method l.name.now) l.target.now (many row l.args.now)) + 2

abbrev pub invariant-patterns::pat_parts_order-loop-i : goal.invariant-patterns::pat_parts_order-loop-i
invariant-patterns::pat_parts_order-loop-i l = Reaches name_part (map pat_part_tree l.xs) (map pat_part_tree l.ys) l.i

abbrev pub decreases-patterns::pat_parts_order : goal.decreases-patterns::pat_parts_order
decreases-patterns::pat_parts_order l = 8 * weight (many row (map pat_part_tree l.xs.now))

abbrev pub decreases-patterns::pat_order : goal.decreases-patterns::pat_order
decreases-patterns::pat_order l = 8 * weight l.a.now + 1

abbrev pub invariant-patterns::then_pats-loop-i : goal.invariant-patterns::then_pats-loop-i
invariant-patterns::then_pats-loop-i l = Reaches name_pat l.xs l.ys l.i

abbrev pub invariant-patterns::pat_pairs_order-loop-i : goal.invariant-patterns::pat_pairs_order-loop-i
invariant-patterns::pat_pairs_order-loop-i l = Reaches (pair_of name_pat) (map pair_tree l.xs) (map pair_tree l.ys) l.i

abbrev pub decreases-patterns::pat_pairs_order : goal.decreases-patterns::pat_pairs_order
decreases-patterns::pat_pairs_order l = 8 * weight (many row (map pair_tree l.xs.now))

abbrev pub decreases-patterns::pat_pair_order : goal.decreases-patterns::pat_pair_order
decreases-patterns::pat_pair_order l = 8 * weight (pair_tree l.a.now)

abbrev pub decreases-patterns::then_pat : goal.decreases-patterns::then_pat
decreases-patterns::then_pat l = 8 * weight l.a.now + 2

abbrev pub decreases-patterns::then_pats : goal.decreases-patterns::then_pats
decreases-patterns::then_pats l = 8 * weight (many row l.xs.now) + 1

abbrev pub decreases-patterns::pat_part_order : goal.decreases-patterns::pat_part_order
decreases-patterns::pat_part_order l = 8 * weight (pat_part_tree l.a.now) + 6

abbrev pub decreases-patterns::same_order : goal.decreases-patterns::same_order
decreases-patterns::same_order l = 8 * weight (one same l.x.now) + 2

abbrev pub decreases-patterns::both_order : goal.decreases-patterns::both_order
decreases-patterns::both_order l = 8 * weight (two both l.left.now l.right.now) + 2

abbrev pub decreases-patterns::either_order : goal.decreases-patterns::either_order
decreases-patterns::either_order l = 8 * weight (two either l.left.now l.right.now) + 2

abbrev pub decreases-patterns::not_order : goal.decreases-patterns::not_order
decreases-patterns::not_order l = 8 * weight (one not_this l.inner.now) + 2

abbrev pub decreases-patterns::list_pat_order : goal.decreases-patterns::list_pat_order
decreases-patterns::list_pat_order l = 8 * weight (two list_pattern (many row l.members.now) (leaf (rest l.remainder))) + 2

abbrev pub decreases-patterns::tuple_pat_order : goal.decreases-patterns::tuple_pat_order
decreases-patterns::tuple_pat_order l = 8 * weight (many tuple l.members.now) + 2

abbrev pub decreases-patterns::set_pat_order : goal.decreases-patterns::set_pat_order
decreases-patterns::set_pat_order l = 8 * weight (two set_pattern (many row l.members.now) (leaf (rest l.remainder))) + 2

abbrev pub decreases-patterns::map_pat_order : goal.decreases-patterns::map_pat_order
decreases-patterns::map_pat_order l = 8 * weight (two map_pattern (many row (map pair_tree l.pairs.now)) (leaf (rest l.remainder))) + 2

abbrev pub decreases-patterns::send_pat_order : goal.decreases-patterns::send_pat_order
decreases-patterns::send_pat_order l = 8 * weight (two (send l.persistent) l.channel.now (many row l.args.now)) + 2

abbrev pub decreases-patterns::bundle_pat_order : goal.decreases-patterns::bundle_pat_order
decreases-patterns::bundle_pat_order l = 8 * weight (one (bundle l.rights) l.body.now) + 2

abbrev pub decreases-patterns::closed_order : goal.decreases-patterns::closed_order
decreases-patterns::closed_order l = 8 * weight (part_tree l.x.now) + 5
