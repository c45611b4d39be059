use Rattle.std.proofs.Common.{sym, ap, subst, refl, ◌∙◌, ◌≤◌, [], ◌∷◌, map, length, arith}
use Rattle.std.specs.Prelude.{string_bytes}
use Rattle.std.specs.declared.cmp.Ordering.TheVariants.{Equal}
use Rattle.calculus.specs.Form.{term, part, a_bind, a_case, a_rest, pat, name_pat, name_part, row_of, pair_of}
use Rattle.calculus.specs.Tree.{weight, weights, trees, par, row, list, tuple, set, dict, pair, send, receive, bind, new, match, case, bundle, binary, method, rest, both, either, not_this, list_pattern, set_pattern, map_pattern}
use Rattle.calculus.specs.Shape.{leaf, one, two, many}
use Rattle.calculus.specs.Code.{byte_of}
use Rattle.calculus.specs.Kinds.{kind_number, rights_number, binary_op_number}
use Rattle.rho_term.specs.Parts.{part_tree, pat_part_tree, pair_tree, bind_tree, case_tree}
use Rattle.rho_term.proofs.Trees.{weight-at, tree-at}
use Rattle.term_order.specs.Orders.{ComparesAs, ThenCompares, IsClosedTag}
use Rattle.term_order.proofs.Closed.{for_pat, for_pats, for_pat_pairs, as_part, closed_apart}
use Rattle.term_order.proofs.Comparing.{equal_numbers}
use Rattle.term_order.proofs.Forms.{one_cmp, two_cmp, three_cmp, many_cmp, follows, then_rest, cmp-byte, cmp-tagged_text, cmp-tagged_origins, moved}
use Rattle.term_order.proofs.Rows.{by_number, at_start, at_end, member_decides, goes_on, by_number_of, at_start_of, at_end_of, member_decides_of, goes_on_of}
use Rattle.term_order.proofs.+order.Goals as goal

pub parts::parts_order-returns-then-is_ne : goal.parts::parts_order-returns-then-is_ne
parts::parts_order-returns-then-is_ne t c = by_number_of part_tree part c.args.xs.now c.args.ys.now c.cmp-by_number.result c.cmp-by_number.ensures (sym c.is_ne.ensures ∙ c.if-is_ne.true)

pub parts::parts_order-loop-i-init : goal.parts::parts_order-loop-i-init
parts::parts_order-loop-i-init t c = at_start_of part_tree part c.args.xs.now c.args.ys.now c.cmp-by_number.result c.cmp-by_number.ensures (sym c.is_ne.ensures ∙ c.if-is_ne.false)

pub parts::parts_order-part_order-order-requires : goal.parts::parts_order-part_order-order-requires
parts::parts_order-part_order-order-requires t c =
    let w : weight (part_tree c.index-xs-i.result) ≤ weights (trees (map part_tree c.args.xs.now)) = rw c.index-xs-i.is (weight-at part_tree _ _ _ c.loop-i-test.true) in
    (omega (arith, w), tt)

pub parts::parts_order-returns-then-is_ne-2 : goal.parts::parts_order-returns-then-is_ne-2
parts::parts_order-returns-then-is_ne-2 t c =
    let e = equal_numbers (length c.args.xs.now) (length c.args.ys.now) c.cmp-by_number.result c.cmp-by_number.ensures (sym c.is_ne.ensures ∙ c.if-is_ne.false) in
    let x = c.index-xs-i in
    let y = c.index-ys-i in
    member_decides_of part_tree part c.args.xs.now c.args.ys.now c.loop-i.i c.loop-i.invariant
    x.result y.result c.loop-i-test.true (omega arith) x.is y.is c.part_order-order.result c.part_order-order.ensures (sym c.is_ne-in-loop-i.ensures ∙ c.if-is_ne-2.true)

pub parts::parts_order-loop-i-preserved : goal.parts::parts_order-loop-i-preserved
parts::parts_order-loop-i-preserved t c =
    let e = equal_numbers (length c.args.xs.now) (length c.args.ys.now) c.cmp-by_number.result c.cmp-by_number.ensures (sym c.is_ne.ensures ∙ c.if-is_ne.false) in
    let x = c.index-xs-i in
    let y = c.index-ys-i in
    goes_on_of part_tree part c.args.xs.now c.args.ys.now c.loop-i.i c.loop-i.invariant
    x.result y.result c.loop-i-test.true (omega arith) x.is y.is c.part_order-order.result c.part_order-order.ensures (sym c.is_ne-in-loop-i.ensures ∙ c.if-is_ne-2.false)

pub parts::parts_order-returns : goal.parts::parts_order-returns
parts::parts_order-returns t c =
    let e = equal_numbers (length c.args.xs.now) (length c.args.ys.now) c.cmp-by_number.result c.cmp-by_number.ensures (sym c.is_ne.ensures ∙ c.if-is_ne.false) in
    at_end_of part_tree part c.args.xs.now c.args.ys.now c.loop-i.i c.loop-i.invariant c.loop-i-test.false (omega arith)

pub terms::then_terms-returns-then-is_ne-2 : goal.terms::then_terms-returns-then-is_ne-2
terms::then_terms-returns-then-is_ne-2 t c =
    follows c.args.first (row_of term) _ _ c.cmp-by_number.result (sym c.is_ne.ensures ∙ c.if-is_ne.false) (by_number term c.args.xs.now c.args.ys.now c.cmp-by_number.result c.cmp-by_number.ensures (sym c.is_ne-2.ensures ∙ c.if-is_ne-2.true))

pub terms::then_terms-loop-i-init : goal.terms::then_terms-loop-i-init
terms::then_terms-loop-i-init t c = at_start term c.args.xs.now c.args.ys.now c.cmp-by_number.result c.cmp-by_number.ensures (sym c.is_ne-2.ensures ∙ c.if-is_ne-2.false)

pub terms::then_terms-term_order-order-requires : goal.terms::then_terms-term_order-order-requires
terms::then_terms-term_order-order-requires t c =
    let w : weight c.index-xs-i.result ≤ weights (trees c.args.xs.now) = rw c.index-xs-i.is (tree-at _ _ _ c.loop-i-test.true) in
    (omega (arith, w), tt)

pub terms::then_terms-returns-then-is_ne-3 : goal.terms::then_terms-returns-then-is_ne-3
terms::then_terms-returns-then-is_ne-3 t c =
    let e = equal_numbers (length c.args.xs.now) (length c.args.ys.now) c.cmp-by_number.result c.cmp-by_number.ensures (sym c.is_ne-2.ensures ∙ c.if-is_ne-2.false) in
    let x = c.index-xs-i in
    let y = c.index-ys-i in
    follows c.args.first (row_of term) _ _ c.term_order-order.result (sym c.is_ne.ensures ∙ c.if-is_ne.false)
    (member_decides term c.args.xs.now c.args.ys.now c.loop-i.i c.loop-i.invariant
    x.result y.result c.loop-i-test.true (omega arith) x.is y.is c.term_order-order.result c.term_order-order.ensures (sym c.is_ne-in-loop-i.ensures ∙ c.if-is_ne-3.true))

pub terms::then_terms-loop-i-preserved : goal.terms::then_terms-loop-i-preserved
terms::then_terms-loop-i-preserved t c =
    let e = equal_numbers (length c.args.xs.now) (length c.args.ys.now) c.cmp-by_number.result c.cmp-by_number.ensures (sym c.is_ne-2.ensures ∙ c.if-is_ne-2.false) in
    let x = c.index-xs-i in
    let y = c.index-ys-i in
    goes_on term c.args.xs.now c.args.ys.now c.loop-i.i c.loop-i.invariant
    x.result y.result c.loop-i-test.true (omega arith) x.is y.is c.term_order-order.result c.term_order-order.ensures (sym c.is_ne-in-loop-i.ensures ∙ c.if-is_ne-3.false)

pub terms::then_terms-returns : goal.terms::then_terms-returns
terms::then_terms-returns t c =
    let e = equal_numbers (length c.args.xs.now) (length c.args.ys.now) c.cmp-by_number.result c.cmp-by_number.ensures (sym c.is_ne-2.ensures ∙ c.if-is_ne-2.false) in
    follows c.args.first (row_of term) _ _ Equal (sym c.is_ne.ensures ∙ c.if-is_ne.false) (at_end term c.args.xs.now c.args.ys.now c.loop-i.i c.loop-i.invariant c.loop-i-test.false (omega arith))

pub pairs::pairs_order-returns-then-is_ne : goal.pairs::pairs_order-returns-then-is_ne
pairs::pairs_order-returns-then-is_ne t c = by_number_of pair_tree (pair_of term) c.args.xs.now c.args.ys.now c.cmp-by_number.result c.cmp-by_number.ensures (sym c.is_ne.ensures ∙ c.if-is_ne.true)

pub pairs::pairs_order-loop-i-init : goal.pairs::pairs_order-loop-i-init
pairs::pairs_order-loop-i-init t c = at_start_of pair_tree (pair_of term) c.args.xs.now c.args.ys.now c.cmp-by_number.result c.cmp-by_number.ensures (sym c.is_ne.ensures ∙ c.if-is_ne.false)

pub pairs::pairs_order-pair_order-order-requires : goal.pairs::pairs_order-pair_order-order-requires
pairs::pairs_order-pair_order-order-requires t c =
    let w : weight (pair_tree c.index-xs-i.result) ≤ weights (trees (map pair_tree c.args.xs.now)) = rw c.index-xs-i.is (weight-at pair_tree _ _ _ c.loop-i-test.true) in
    (omega (arith, w), tt)

pub pairs::pairs_order-returns-then-is_ne-2 : goal.pairs::pairs_order-returns-then-is_ne-2
pairs::pairs_order-returns-then-is_ne-2 t c =
    let e = equal_numbers (length c.args.xs.now) (length c.args.ys.now) c.cmp-by_number.result c.cmp-by_number.ensures (sym c.is_ne.ensures ∙ c.if-is_ne.false) in
    let x = c.index-xs-i in
    let y = c.index-ys-i in
    member_decides_of pair_tree (pair_of term) c.args.xs.now c.args.ys.now c.loop-i.i c.loop-i.invariant
    x.result y.result c.loop-i-test.true (omega arith) x.is y.is c.pair_order-order.result c.pair_order-order.ensures (sym c.is_ne-in-loop-i.ensures ∙ c.if-is_ne-2.true)

pub pairs::pairs_order-loop-i-preserved : goal.pairs::pairs_order-loop-i-preserved
pairs::pairs_order-loop-i-preserved t c =
    let e = equal_numbers (length c.args.xs.now) (length c.args.ys.now) c.cmp-by_number.result c.cmp-by_number.ensures (sym c.is_ne.ensures ∙ c.if-is_ne.false) in
    let x = c.index-xs-i in
    let y = c.index-ys-i in
    goes_on_of pair_tree (pair_of term) c.args.xs.now c.args.ys.now c.loop-i.i c.loop-i.invariant
    x.result y.result c.loop-i-test.true (omega arith) x.is y.is c.pair_order-order.result c.pair_order-order.ensures (sym c.is_ne-in-loop-i.ensures ∙ c.if-is_ne-2.false)

pub pairs::pairs_order-returns : goal.pairs::pairs_order-returns
pairs::pairs_order-returns t c =
    let e = equal_numbers (length c.args.xs.now) (length c.args.ys.now) c.cmp-by_number.result c.cmp-by_number.ensures (sym c.is_ne.ensures ∙ c.if-is_ne.false) in
    at_end_of pair_tree (pair_of term) c.args.xs.now c.args.ys.now c.loop-i.i c.loop-i.invariant c.loop-i-test.false (omega arith)

pub binds::then_binds-returns-then-is_ne-2 : goal.binds::then_binds-returns-then-is_ne-2
binds::then_binds-returns-then-is_ne-2 t c =
    follows c.args.first (row_of a_bind) _ _ c.cmp-by_number.result (sym c.is_ne.ensures ∙ c.if-is_ne.false) (by_number_of bind_tree a_bind c.args.xs.now c.args.ys.now c.cmp-by_number.result c.cmp-by_number.ensures (sym c.is_ne-2.ensures ∙ c.if-is_ne-2.true))

pub binds::then_binds-loop-i-init : goal.binds::then_binds-loop-i-init
binds::then_binds-loop-i-init t c = at_start_of bind_tree a_bind c.args.xs.now c.args.ys.now c.cmp-by_number.result c.cmp-by_number.ensures (sym c.is_ne-2.ensures ∙ c.if-is_ne-2.false)

pub binds::then_binds-bind_order-order-requires : goal.binds::then_binds-bind_order-order-requires
binds::then_binds-bind_order-order-requires t c =
    let w : weight (bind_tree c.index-xs-i.result) ≤ weights (trees (map bind_tree c.args.xs.now)) = rw c.index-xs-i.is (weight-at bind_tree _ _ _ c.loop-i-test.true) in
    (omega (arith, w), tt)

pub binds::then_binds-returns-then-is_ne-3 : goal.binds::then_binds-returns-then-is_ne-3
binds::then_binds-returns-then-is_ne-3 t c =
    let e = equal_numbers (length c.args.xs.now) (length c.args.ys.now) c.cmp-by_number.result c.cmp-by_number.ensures (sym c.is_ne-2.ensures ∙ c.if-is_ne-2.false) in
    let x = c.index-xs-i in
    let y = c.index-ys-i in
    follows c.args.first (row_of a_bind) _ _ c.bind_order-order.result (sym c.is_ne.ensures ∙ c.if-is_ne.false)
    (member_decides_of bind_tree a_bind c.args.xs.now c.args.ys.now c.loop-i.i c.loop-i.invariant
    x.result y.result c.loop-i-test.true (omega arith) x.is y.is c.bind_order-order.result c.bind_order-order.ensures (sym c.is_ne-in-loop-i.ensures ∙ c.if-is_ne-3.true))

pub binds::then_binds-loop-i-preserved : goal.binds::then_binds-loop-i-preserved
binds::then_binds-loop-i-preserved t c =
    let e = equal_numbers (length c.args.xs.now) (length c.args.ys.now) c.cmp-by_number.result c.cmp-by_number.ensures (sym c.is_ne-2.ensures ∙ c.if-is_ne-2.false) in
    let x = c.index-xs-i in
    let y = c.index-ys-i in
    goes_on_of bind_tree a_bind c.args.xs.now c.args.ys.now c.loop-i.i c.loop-i.invariant
    x.result y.result c.loop-i-test.true (omega arith) x.is y.is c.bind_order-order.result c.bind_order-order.ensures (sym c.is_ne-in-loop-i.ensures ∙ c.if-is_ne-3.false)

pub binds::then_binds-returns : goal.binds::then_binds-returns
binds::then_binds-returns t c =
    let e = equal_numbers (length c.args.xs.now) (length c.args.ys.now) c.cmp-by_number.result c.cmp-by_number.ensures (sym c.is_ne-2.ensures ∙ c.if-is_ne-2.false) in
    follows c.args.first (row_of a_bind) _ _ Equal (sym c.is_ne.ensures ∙ c.if-is_ne.false) (at_end_of bind_tree a_bind c.args.xs.now c.args.ys.now c.loop-i.i c.loop-i.invariant c.loop-i-test.false (omega arith))

pub binds::then_cases-returns-then-is_ne-2 : goal.binds::then_cases-returns-then-is_ne-2
binds::then_cases-returns-then-is_ne-2 t c =
    follows c.args.first (row_of a_case) _ _ c.cmp-by_number.result (sym c.is_ne.ensures ∙ c.if-is_ne.false) (by_number_of case_tree a_case c.args.xs.now c.args.ys.now c.cmp-by_number.result c.cmp-by_number.ensures (sym c.is_ne-2.ensures ∙ c.if-is_ne-2.true))

pub binds::then_cases-loop-i-init : goal.binds::then_cases-loop-i-init
binds::then_cases-loop-i-init t c = at_start_of case_tree a_case c.args.xs.now c.args.ys.now c.cmp-by_number.result c.cmp-by_number.ensures (sym c.is_ne-2.ensures ∙ c.if-is_ne-2.false)

pub binds::then_cases-case_order-order-requires : goal.binds::then_cases-case_order-order-requires
binds::then_cases-case_order-order-requires t c =
    let w : weight (case_tree c.index-xs-i.result) ≤ weights (trees (map case_tree c.args.xs.now)) = rw c.index-xs-i.is (weight-at case_tree _ _ _ c.loop-i-test.true) in
    (omega (arith, w), tt)

pub binds::then_cases-returns-then-is_ne-3 : goal.binds::then_cases-returns-then-is_ne-3
binds::then_cases-returns-then-is_ne-3 t c =
    let e = equal_numbers (length c.args.xs.now) (length c.args.ys.now) c.cmp-by_number.result c.cmp-by_number.ensures (sym c.is_ne-2.ensures ∙ c.if-is_ne-2.false) in
    let x = c.index-xs-i in
    let y = c.index-ys-i in
    follows c.args.first (row_of a_case) _ _ c.case_order-order.result (sym c.is_ne.ensures ∙ c.if-is_ne.false)
    (member_decides_of case_tree a_case c.args.xs.now c.args.ys.now c.loop-i.i c.loop-i.invariant
    x.result y.result c.loop-i-test.true (omega arith) x.is y.is c.case_order-order.result c.case_order-order.ensures (sym c.is_ne-in-loop-i.ensures ∙ c.if-is_ne-3.true))

pub binds::then_cases-loop-i-preserved : goal.binds::then_cases-loop-i-preserved
binds::then_cases-loop-i-preserved t c =
    let e = equal_numbers (length c.args.xs.now) (length c.args.ys.now) c.cmp-by_number.result c.cmp-by_number.ensures (sym c.is_ne-2.ensures ∙ c.if-is_ne-2.false) in
    let x = c.index-xs-i in
    let y = c.index-ys-i in
    goes_on_of case_tree a_case c.args.xs.now c.args.ys.now c.loop-i.i c.loop-i.invariant
    x.result y.result c.loop-i-test.true (omega arith) x.is y.is c.case_order-order.result c.case_order-order.ensures (sym c.is_ne-in-loop-i.ensures ∙ c.if-is_ne-3.false)

pub binds::then_cases-returns : goal.binds::then_cases-returns
binds::then_cases-returns t c =
    let e = equal_numbers (length c.args.xs.now) (length c.args.ys.now) c.cmp-by_number.result c.cmp-by_number.ensures (sym c.is_ne-2.ensures ∙ c.if-is_ne-2.false) in
    follows c.args.first (row_of a_case) _ _ Equal (sym c.is_ne.ensures ∙ c.if-is_ne.false) (at_end_of case_tree a_case c.args.xs.now c.args.ys.now c.loop-i.i c.loop-i.invariant c.loop-i-test.false (omega arith))

pub patterns::pat_parts_order-returns-then-is_ne : goal.patterns::pat_parts_order-returns-then-is_ne
patterns::pat_parts_order-returns-then-is_ne t c = by_number_of pat_part_tree name_part c.args.xs.now c.args.ys.now c.cmp-by_number.result c.cmp-by_number.ensures (sym c.is_ne.ensures ∙ c.if-is_ne.true)

pub patterns::pat_parts_order-loop-i-init : goal.patterns::pat_parts_order-loop-i-init
patterns::pat_parts_order-loop-i-init t c = at_start_of pat_part_tree name_part c.args.xs.now c.args.ys.now c.cmp-by_number.result c.cmp-by_number.ensures (sym c.is_ne.ensures ∙ c.if-is_ne.false)

pub patterns::pat_parts_order-pat_part_order-order-requires : goal.patterns::pat_parts_order-pat_part_order-order-requires
patterns::pat_parts_order-pat_part_order-order-requires t c =
    let w : weight (pat_part_tree c.index-xs-i.result) ≤ weights (trees (map pat_part_tree c.args.xs.now)) = rw c.index-xs-i.is (weight-at pat_part_tree _ _ _ c.loop-i-test.true) in
    (omega (arith, w), tt)

pub patterns::pat_parts_order-returns-then-is_ne-2 : goal.patterns::pat_parts_order-returns-then-is_ne-2
patterns::pat_parts_order-returns-then-is_ne-2 t c =
    let e = equal_numbers (length c.args.xs.now) (length c.args.ys.now) c.cmp-by_number.result c.cmp-by_number.ensures (sym c.is_ne.ensures ∙ c.if-is_ne.false) in
    let x = c.index-xs-i in
    let y = c.index-ys-i in
    member_decides_of pat_part_tree name_part c.args.xs.now c.args.ys.now c.loop-i.i c.loop-i.invariant
    x.result y.result c.loop-i-test.true (omega arith) x.is y.is c.pat_part_order-order.result c.pat_part_order-order.ensures (sym c.is_ne-in-loop-i.ensures ∙ c.if-is_ne-2.true)

pub patterns::pat_parts_order-loop-i-preserved : goal.patterns::pat_parts_order-loop-i-preserved
patterns::pat_parts_order-loop-i-preserved t c =
    let e = equal_numbers (length c.args.xs.now) (length c.args.ys.now) c.cmp-by_number.result c.cmp-by_number.ensures (sym c.is_ne.ensures ∙ c.if-is_ne.false) in
    let x = c.index-xs-i in
    let y = c.index-ys-i in
    goes_on_of pat_part_tree name_part c.args.xs.now c.args.ys.now c.loop-i.i c.loop-i.invariant
    x.result y.result c.loop-i-test.true (omega arith) x.is y.is c.pat_part_order-order.result c.pat_part_order-order.ensures (sym c.is_ne-in-loop-i.ensures ∙ c.if-is_ne-2.false)

pub patterns::pat_parts_order-returns : goal.patterns::pat_parts_order-returns
patterns::pat_parts_order-returns t c =
    let e = equal_numbers (length c.args.xs.now) (length c.args.ys.now) c.cmp-by_number.result c.cmp-by_number.ensures (sym c.is_ne.ensures ∙ c.if-is_ne.false) in
    at_end_of pat_part_tree name_part c.args.xs.now c.args.ys.now c.loop-i.i c.loop-i.invariant c.loop-i-test.false (omega arith)

pub patterns::then_pats-returns-then-is_ne-2 : goal.patterns::then_pats-returns-then-is_ne-2
patterns::then_pats-returns-then-is_ne-2 t c =
    follows c.args.first (row_of name_pat) _ _ c.cmp-by_number.result (sym c.is_ne.ensures ∙ c.if-is_ne.false) (by_number name_pat c.args.xs.now c.args.ys.now c.cmp-by_number.result c.cmp-by_number.ensures (sym c.is_ne-2.ensures ∙ c.if-is_ne-2.true))

pub patterns::then_pats-loop-i-init : goal.patterns::then_pats-loop-i-init
patterns::then_pats-loop-i-init t c = at_start name_pat c.args.xs.now c.args.ys.now c.cmp-by_number.result c.cmp-by_number.ensures (sym c.is_ne-2.ensures ∙ c.if-is_ne-2.false)

pub patterns::then_pats-pat_order-order-requires : goal.patterns::then_pats-pat_order-order-requires
patterns::then_pats-pat_order-order-requires t c =
    let w : weight c.index-xs-i.result ≤ weights (trees c.args.xs.now) = rw c.index-xs-i.is (tree-at _ _ _ c.loop-i-test.true) in
    (omega (arith, w), tt)

pub patterns::then_pats-returns-then-is_ne-3 : goal.patterns::then_pats-returns-then-is_ne-3
patterns::then_pats-returns-then-is_ne-3 t c =
    let e = equal_numbers (length c.args.xs.now) (length c.args.ys.now) c.cmp-by_number.result c.cmp-by_number.ensures (sym c.is_ne-2.ensures ∙ c.if-is_ne-2.false) in
    let x = c.index-xs-i in
    let y = c.index-ys-i in
    follows c.args.first (row_of name_pat) _ _ c.pat_order-order.result (sym c.is_ne.ensures ∙ c.if-is_ne.false)
    (member_decides name_pat c.args.xs.now c.args.ys.now c.loop-i.i c.loop-i.invariant
    x.result y.result c.loop-i-test.true (omega arith) x.is y.is c.pat_order-order.result c.pat_order-order.ensures (sym c.is_ne-in-loop-i.ensures ∙ c.if-is_ne-3.true))

pub patterns::then_pats-loop-i-preserved : goal.patterns::then_pats-loop-i-preserved
patterns::then_pats-loop-i-preserved t c =
    let e = equal_numbers (length c.args.xs.now) (length c.args.ys.now) c.cmp-by_number.result c.cmp-by_number.ensures (sym c.is_ne-2.ensures ∙ c.if-is_ne-2.false) in
    let x = c.index-xs-i in
    let y = c.index-ys-i in
    goes_on name_pat c.args.xs.now c.args.ys.now c.loop-i.i c.loop-i.invariant
    x.result y.result c.loop-i-test.true (omega arith) x.is y.is c.pat_order-order.result c.pat_order-order.ensures (sym c.is_ne-in-loop-i.ensures ∙ c.if-is_ne-3.false)

pub patterns::then_pats-returns : goal.patterns::then_pats-returns
patterns::then_pats-returns t c =
    let e = equal_numbers (length c.args.xs.now) (length c.args.ys.now) c.cmp-by_number.result c.cmp-by_number.ensures (sym c.is_ne-2.ensures ∙ c.if-is_ne-2.false) in
    follows c.args.first (row_of name_pat) _ _ Equal (sym c.is_ne.ensures ∙ c.if-is_ne.false) (at_end name_pat c.args.xs.now c.args.ys.now c.loop-i.i c.loop-i.invariant c.loop-i-test.false (omega arith))

pub patterns::pat_pairs_order-returns-then-is_ne : goal.patterns::pat_pairs_order-returns-then-is_ne
patterns::pat_pairs_order-returns-then-is_ne t c = by_number_of pair_tree (pair_of name_pat) c.args.xs.now c.args.ys.now c.cmp-by_number.result c.cmp-by_number.ensures (sym c.is_ne.ensures ∙ c.if-is_ne.true)

pub patterns::pat_pairs_order-loop-i-init : goal.patterns::pat_pairs_order-loop-i-init
patterns::pat_pairs_order-loop-i-init t c = at_start_of pair_tree (pair_of name_pat) c.args.xs.now c.args.ys.now c.cmp-by_number.result c.cmp-by_number.ensures (sym c.is_ne.ensures ∙ c.if-is_ne.false)

pub patterns::pat_pairs_order-pat_pair_order-order-requires : goal.patterns::pat_pairs_order-pat_pair_order-order-requires
patterns::pat_pairs_order-pat_pair_order-order-requires t c =
    let w : weight (pair_tree c.index-xs-i.result) ≤ weights (trees (map pair_tree c.args.xs.now)) = rw c.index-xs-i.is (weight-at pair_tree _ _ _ c.loop-i-test.true) in
    (omega (arith, w), tt)

pub patterns::pat_pairs_order-returns-then-is_ne-2 : goal.patterns::pat_pairs_order-returns-then-is_ne-2
patterns::pat_pairs_order-returns-then-is_ne-2 t c =
    let e = equal_numbers (length c.args.xs.now) (length c.args.ys.now) c.cmp-by_number.result c.cmp-by_number.ensures (sym c.is_ne.ensures ∙ c.if-is_ne.false) in
    let x = c.index-xs-i in
    let y = c.index-ys-i in
    member_decides_of pair_tree (pair_of name_pat) c.args.xs.now c.args.ys.now c.loop-i.i c.loop-i.invariant
    x.result y.result c.loop-i-test.true (omega arith) x.is y.is c.pat_pair_order-order.result c.pat_pair_order-order.ensures (sym c.is_ne-in-loop-i.ensures ∙ c.if-is_ne-2.true)

pub patterns::pat_pairs_order-loop-i-preserved : goal.patterns::pat_pairs_order-loop-i-preserved
patterns::pat_pairs_order-loop-i-preserved t c =
    let e = equal_numbers (length c.args.xs.now) (length c.args.ys.now) c.cmp-by_number.result c.cmp-by_number.ensures (sym c.is_ne.ensures ∙ c.if-is_ne.false) in
    let x = c.index-xs-i in
    let y = c.index-ys-i in
    goes_on_of pair_tree (pair_of name_pat) c.args.xs.now c.args.ys.now c.loop-i.i c.loop-i.invariant
    x.result y.result c.loop-i-test.true (omega arith) x.is y.is c.pat_pair_order-order.result c.pat_pair_order-order.ensures (sym c.is_ne-in-loop-i.ensures ∙ c.if-is_ne-2.false)

pub patterns::pat_pairs_order-returns : goal.patterns::pat_pairs_order-returns
patterns::pat_pairs_order-returns t c =
    let e = equal_numbers (length c.args.xs.now) (length c.args.ys.now) c.cmp-by_number.result c.cmp-by_number.ensures (sym c.is_ne.ensures ∙ c.if-is_ne.false) in
    at_end_of pair_tree (pair_of name_pat) c.args.xs.now c.args.ys.now c.loop-i.i c.loop-i.invariant c.loop-i-test.false (omega arith)

pub terms::term_order-returns : goal.terms::term_order-returns
terms::term_order-returns t c =
    let e = many_cmp term part par [] refl (λ n. refl) _ _ c.parts_order.result c.parts_order.ensures in
    let f = subst (λ x. ComparesAs term x (many par (map part_tree c.parts-2.result.now)) c.parts_order.result) (sym c.parts.ensures.parts) e in
    moved term c.args.a.now _ _ c.parts_order.result (sym c.parts-2.ensures.parts) f

pub parts::list_order-returns-in-List : goal.parts::list_order-returns-in-List
parts::list_order-returns-in-List t c =
    let e = many_cmp part term list (0x20 ∷ []) refl (λ n. refl) c.args.xs.now c.deref.result.now c.then_terms.result c.then_terms.ensures in
    moved part _ _ _ c.then_terms.result (ap (λ zs. many list zs) c.deref.ensures.value ∙ sym (ap part_tree c.in-List.is)) e

pub parts::tuple_order-returns-in-Tuple : goal.parts::tuple_order-returns-in-Tuple
parts::tuple_order-returns-in-Tuple t c =
    let e = many_cmp part term tuple (0x21 ∷ []) refl (λ n. refl) c.args.xs.now c.deref.result.now c.then_terms.result c.then_terms.ensures in
    moved part _ _ _ c.then_terms.result (ap (λ zs. many tuple zs) c.deref.ensures.value ∙ sym (ap part_tree c.in-Tuple.is)) e

pub parts::set_order-returns-in-Set : goal.parts::set_order-returns-in-Set
parts::set_order-returns-in-Set t c =
    let e = many_cmp part term set (0x22 ∷ []) refl (λ n. refl) c.args.xs.now c.deref.result.now c.then_terms.result c.then_terms.ensures in
    moved part _ _ _ c.then_terms.result (ap (λ zs. many set zs) c.deref.ensures.value ∙ sym (ap part_tree c.in-Set.is)) e

pub parts::map_order-returns-in-Map : goal.parts::map_order-returns-in-Map
parts::map_order-returns-in-Map t c =
    let e = many_cmp part (pair_of term) dict (0x23 ∷ []) refl (λ n. refl) (map pair_tree c.args.xs.now) (map pair_tree c.deref.result.now) c.pairs_order.result c.pairs_order.ensures in
    moved part _ _ _ c.pairs_order.result (ap (λ zs. many dict (map pair_tree zs)) c.deref.ensures.value ∙ sym (ap part_tree c.in-Map.is)) e

pub parts::send_order-returns-in-Send : goal.parts::send_order-returns-in-Send
parts::send_order-returns-in-Send t c =
    let p = c.args.persistent in
    let q = c.in-Send.other_persistent in
    let d = c.in-Send.other_channel in
    let o = c.flag_order-by_flag.result in
    let e = two_cmp part term (row_of term) (send p) (send q) _ _ d (many row c.deref.result.now) o c.then_term-by_channel.result c.then_terms.result refl refl
    (λ a b. cmp-byte 0x30 (byte_of p) (byte_of q) o c.flag_order-by_flag.ensures) c.then_term-by_channel.ensures c.then_terms.ensures in
    moved part _ _ _ c.then_terms.result (ap (λ zs. two (send q) d (many row zs)) c.deref.ensures.value ∙ sym (ap part_tree c.in-Send.is)) e

pub parts::receive_order-returns-in-Receive : goal.parts::receive_order-returns-in-Receive
parts::receive_order-returns-in-Receive t c =
    let p = c.args.kind in
    let q = c.in-Receive.other_kind in
    let d = c.in-Receive.other_body in
    let o = c.kind_order-by_kind.result in
    let e = two_cmp part (row_of a_bind) term (receive p) (receive q) _ _ (many row (map bind_tree c.deref.result.now)) d o c.then_binds-by_binds.result c.then_term.result refl refl
    (λ a b. cmp-byte 0x31 (kind_number p) (kind_number q) o c.kind_order-by_kind.ensures) c.then_binds-by_binds.ensures c.then_term.ensures in
    moved part _ _ _ c.then_term.result (ap (λ zs. two (receive q) (many row (map bind_tree zs)) d) c.deref.ensures.value ∙ sym (ap part_tree c.in-Receive.is)) e

pub pairs::pair_order-returns : goal.pairs::pair_order-returns
pairs::pair_order-returns t c =
    two_cmp (pair_of term) term term pair pair _ _ _ _ Equal c.term_order-by_key.result c.then_term.result refl refl (λ a b. refl) c.term_order-by_key.ensures c.then_term.ensures

pub patterns::pat_pair_order-returns : goal.patterns::pat_pair_order-returns
patterns::pat_pair_order-returns t c =
    two_cmp (pair_of name_pat) name_pat name_pat pair pair _ _ _ _ Equal c.pat_order-by_key.result c.then_pat.result refl refl (λ a b. refl) c.pat_order-by_key.ensures c.then_pat.ensures

pub binds::case_order-returns : goal.binds::case_order-returns
binds::case_order-returns t c =
    let p = c.pat_order-by_pat.result in
    two_cmp a_case pat term case case _ _ _ _ Equal p c.then_term.result refl refl (λ a b. refl) (for_pat Equal _ _ p c.pat_order-by_pat.ensures) c.then_term.ensures

pub binds::bind_order-returns : goal.binds::bind_order-returns
binds::bind_order-returns t c =
    let a = c.args.a.now in
    let b = c.args.b.now in
    let o = c.term_order-by_channel.result in
    let p = c.then_pats-by_pats.result in
    let r = c.then.result in
    let f = subst (λ xs. ThenCompares o (row_of name_pat) (many row xs) (many row c.deref-2.result.now) p) c.deref.ensures.value c.then_pats-by_pats.ensures in
    let g = subst (λ ys. ThenCompares o (row_of name_pat) (many row a.pats.items) (many row ys) p) c.deref-2.ensures.value f in
    three_cmp a_bind term (row_of name_pat) a_rest bind bind a.channel (many row a.pats.items) (leaf (rest a.rest)) b.channel (many row b.pats.items) (leaf (rest b.rest)) Equal o p r refl refl
    (λ x y. refl) c.term_order-by_channel.ensures g (then_rest p c.rest_order.result r a.rest b.rest c.then.ensures c.rest_order.ensures)

pub parts::match_order-returns-in-Match : goal.parts::match_order-returns-in-Match
parts::match_order-returns-in-Match t c =
    let d = c.in-Match.other_target in
    let o = c.term_order-by_target.result in
    let e = two_cmp part term (row_of a_case) match match _ _ d (many row (map case_tree c.deref.result.now)) Equal o c.then_cases.result refl refl
    (λ a b. refl) c.term_order-by_target.ensures c.then_cases.ensures in
    moved part _ _ _ c.then_cases.result (ap (λ zs. two match d (many row (map case_tree zs))) c.deref.ensures.value ∙ sym (ap part_tree c.in-Match.is)) e

pub parts::binary_order-returns-in-Binary : goal.parts::binary_order-returns-in-Binary
parts::binary_order-returns-in-Binary t c =
    let p = c.args.op in
    let q = c.in-Binary.other_op in
    let o = c.binary_op_order-by_op.result in
    let e = two_cmp part term term (binary p) (binary q) _ _ c.in-Binary.other_left c.in-Binary.other_right o c.then_term-by_left.result c.then_term.result refl refl
    (λ a b. cmp-byte 0x41 (binary_op_number p) (binary_op_number q) o c.binary_op_order-by_op.ensures) c.then_term-by_left.ensures c.then_term.ensures in
    moved part _ _ _ c.then_term.result (sym (ap part_tree c.in-Binary.is)) e

pub parts::method_order-returns-in-Method : goal.parts::method_order-returns-in-Method
parts::method_order-returns-in-Method t c =
    let n = c.args.name.now in
    let m = c.as_bytes.result.now in
    let d = c.in-Method.other_target in
    let o = c.text_order-by_name.result in
    let e = two_cmp part term (row_of term) (method n) (method m) _ _ d (many row c.deref.result.now) o c.then_term-by_target.result c.then_terms.result refl refl
    (cmp-tagged_text 0x42 n m o c.text_order-by_name.ensures) c.then_term-by_target.ensures c.then_terms.ensures in
    moved part _ _ _ c.then_terms.result
    (ap (λ z. two (method z) d (many row c.deref.result.now)) c.as_bytes.ensures.value
    ∙ ap (λ zs. two (method (string_bytes c.in-Method.other_name)) d (many row zs)) c.deref.ensures.value ∙ sym (ap part_tree c.in-Method.is)) e

pub parts::new_order-returns-in-New : goal.parts::new_order-returns-in-New
parts::new_order-returns-in-New t c =
    let ns = c.args.names.now in
    let d = c.in-New.other_body in
    let ms = c.deref.result.now in
    let o = c.origins_order-by_names.result in
    let e = one_cmp part term (new ns) (new ms) _ d o c.then_term.result refl refl (cmp-tagged_origins ns ms o c.origins_order-by_names.ensures) c.then_term.ensures in
    moved part _ _ _ c.then_term.result (ap (λ zs. one (new zs) d) c.deref.ensures.value ∙ sym (ap part_tree c.in-New.is)) e

pub patterns::tuple_pat_order-returns-in-Tuple : goal.patterns::tuple_pat_order-returns-in-Tuple
patterns::tuple_pat_order-returns-in-Tuple t c =
    let xs = c.args.members.now in
    let ys = c.deref.result.now in
    let r = c.then_pats.result in
    let e = many_cmp name_part pat tuple (0x21 ∷ []) refl (λ n. refl) xs ys r (for_pats Equal (many row xs) (many row ys) r c.then_pats.ensures) in
    moved name_part _ _ _ r (ap (λ zs. many tuple zs) c.deref.ensures.value ∙ sym (ap pat_part_tree c.in-Tuple.is)) e

pub patterns::both_order-returns-in-Both : goal.patterns::both_order-returns-in-Both
patterns::both_order-returns-in-Both t c =
    let o = c.pat_order-by_left.result in
    let v = c.in-Both.other_left in
    let w = c.in-Both.other_right in
    let e = two_cmp name_part pat pat both both _ _ v w Equal o c.then_pat.result refl refl
    (λ a b. refl) (for_pat Equal _ v o c.pat_order-by_left.ensures) (for_pat o _ w c.then_pat.result c.then_pat.ensures) in
    moved name_part _ _ _ c.then_pat.result (sym (ap pat_part_tree c.in-Both.is)) e

pub patterns::either_order-returns-in-Either : goal.patterns::either_order-returns-in-Either
patterns::either_order-returns-in-Either t c =
    let o = c.pat_order-by_left.result in
    let v = c.in-Either.other_left in
    let w = c.in-Either.other_right in
    let e = two_cmp name_part pat pat either either _ _ v w Equal o c.then_pat.result refl refl
    (λ a b. refl) (for_pat Equal _ v o c.pat_order-by_left.ensures) (for_pat o _ w c.then_pat.result c.then_pat.ensures) in
    moved name_part _ _ _ c.then_pat.result (sym (ap pat_part_tree c.in-Either.is)) e

pub patterns::not_order-returns-in-Not : goal.patterns::not_order-returns-in-Not
patterns::not_order-returns-in-Not t c =
    let v = c.in-Not.other in
    let r = c.pat_order.result in
    let e = one_cmp name_part pat not_this not_this _ v Equal r refl refl (λ a b. refl) (for_pat Equal _ v r c.pat_order.ensures) in
    moved name_part _ _ _ r (sym (ap pat_part_tree c.in-Not.is)) e

pub patterns::bundle_pat_order-returns-in-Bundle : goal.patterns::bundle_pat_order-returns-in-Bundle
patterns::bundle_pat_order-returns-in-Bundle t c =
    let p = c.args.rights in
    let q = c.in-Bundle.other_rights in
    let v = c.in-Bundle.other_body in
    let o = c.rights_order-by_rights.result in
    let r = c.then_pat.result in
    let e = one_cmp name_part pat (bundle p) (bundle q) _ v o r refl refl
    (λ a b. cmp-byte 0x34 (rights_number p) (rights_number q) o c.rights_order-by_rights.ensures) (for_pat o _ v r c.then_pat.ensures) in
    moved name_part _ _ _ r (sym (ap pat_part_tree c.in-Bundle.is)) e

pub patterns::send_pat_order-returns-in-Send : goal.patterns::send_pat_order-returns-in-Send
patterns::send_pat_order-returns-in-Send t c =
    let p = c.args.persistent in
    let q = c.in-Send.other_persistent in
    let d = c.in-Send.other_channel in
    let o = c.flag_order-by_flag.result in
    let g = c.then_pat-by_channel.result in
    let r = c.then_pats.result in
    let e = two_cmp name_part name_pat (row_of pat) (send p) (send q) _ _ d (many row c.deref.result.now) o g r refl refl
    (λ a b. cmp-byte 0x30 (byte_of p) (byte_of q) o c.flag_order-by_flag.ensures) c.then_pat-by_channel.ensures (for_pats g _ _ r c.then_pats.ensures) in
    moved name_part _ _ _ r (ap (λ zs. two (send q) d (many row zs)) c.deref.ensures.value ∙ sym (ap pat_part_tree c.in-Send.is)) e

pub patterns::list_pat_order-returns-in-List : goal.patterns::list_pat_order-returns-in-List
patterns::list_pat_order-returns-in-List t c =
    let p = c.args.remainder in
    let q = c.in-List.other_rest in
    let o = c.then_pats-by_members.result in
    let r = c.then.result in
    let e = two_cmp name_part (row_of pat) a_rest list_pattern list_pattern (many row c.args.members.now) (leaf (rest p)) (many row c.deref.result.now) (leaf (rest q)) Equal o r refl refl
    (λ a b. refl) (for_pats Equal _ _ o c.then_pats-by_members.ensures) (then_rest o c.rest_order.result r p q c.then.ensures c.rest_order.ensures) in
    moved name_part _ _ _ r (ap (λ zs. two list_pattern (many row zs) (leaf (rest q))) c.deref.ensures.value ∙ sym (ap pat_part_tree c.in-List.is)) e

pub patterns::set_pat_order-returns-in-Set : goal.patterns::set_pat_order-returns-in-Set
patterns::set_pat_order-returns-in-Set t c =
    let p = c.args.remainder in
    let q = c.in-Set.other_rest in
    let o = c.then_pats-by_members.result in
    let r = c.then.result in
    let e = two_cmp name_part (row_of pat) a_rest set_pattern set_pattern (many row c.args.members.now) (leaf (rest p)) (many row c.deref.result.now) (leaf (rest q)) Equal o r refl refl
    (λ a b. refl) (for_pats Equal _ _ o c.then_pats-by_members.ensures) (then_rest o c.rest_order.result r p q c.then.ensures c.rest_order.ensures) in
    moved name_part _ _ _ r (ap (λ zs. two set_pattern (many row zs) (leaf (rest q))) c.deref.ensures.value ∙ sym (ap pat_part_tree c.in-Set.is)) e

pub patterns::map_pat_order-returns-in-Map : goal.patterns::map_pat_order-returns-in-Map
patterns::map_pat_order-returns-in-Map t c =
    let p = c.args.remainder in
    let q = c.in-Map.other_rest in
    let o = c.pat_pairs_order-by_pairs.result in
    let r = c.then.result in
    let e = two_cmp name_part (row_of (pair_of pat)) a_rest map_pattern map_pattern (many row (map pair_tree c.args.pairs.now)) (leaf (rest p)) (many row (map pair_tree c.deref.result.now)) (leaf (rest q)) Equal o r refl refl
    (λ a b. refl) (for_pat_pairs Equal _ _ o c.pat_pairs_order-by_pairs.ensures) (then_rest o c.rest_order.result r p q c.then.ensures c.rest_order.ensures) in
    moved name_part _ _ _ r (ap (λ zs. two map_pattern (many row (map pair_tree zs)) (leaf (rest q))) c.deref.ensures.value ∙ sym (ap pat_part_tree c.in-Map.is)) e

pub patterns::closed_order-returns-in-Closed : goal.patterns::closed_order-returns-in-Closed
patterns::closed_order-returns-in-Closed t c =
    let x = c.args.x.now in
    let y = c.in-Closed.y in
    let r = c.part_order.result in
    let f = c.closed_tag-tag.ensures in
    let g = c.closed_tag-other_tag.ensures in
    let e : ComparesAs name_part (part_tree x) (part_tree y) r = λ h k. c.part_order.ensures (as_part x (subst IsClosedTag f.is (f.own h)) h) (as_part y (subst IsClosedTag g.is (g.own k)) k) in
    moved name_part _ _ _ r (sym (ap pat_part_tree c.in-Closed.is)) e

pub patterns::closed_order-returns-in_default : goal.patterns::closed_order-returns-in_default
patterns::closed_order-returns-in_default t c =
    let f = c.closed_tag-tag.ensures in
    let g = c.pat_tag.ensures in
    closed_apart c.args.x.now c.args.b.now c.closed_tag-tag.result c.pat_tag.result c.cmp.result f.is g.is f.own c.in_default.not-Ground c.in_default.not-Closed c.cmp.ensures
