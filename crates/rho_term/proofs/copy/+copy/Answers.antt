use Rattle.std.proofs.Common.{◌≡◌, ◌∙◌, arith, ap, refl, sym, map, ◌≤◌}
use Rattle.calculus.specs.Tree.{binary, both, bundle, case, dict, either, list, list_pattern, map_pattern, match, not_this, par, pattern, receive, row, same, send, set, set_pattern, tuple, unary, weight, weights, trees}
use Rattle.calculus.specs.Shape.{leaf, many, one, two}
use Rattle.rho_term.specs.Parts.{part_tree, pat_part_tree, pair_tree, bind_tree, case_tree}
use Rattle.rho_term.proofs.Copying.{copied-end, copied-step, same-end, same-step, two-same}
use Rattle.rho_term.proofs.Trees.{weight-at, tree-at}
use Rattle.rho_term.proofs.Turns.{turn-item, turn-within, turns-done}
use Rattle.rho_term.proofs.copy.+copy.Goals as goal

pub copy_term-copy_part-copy-requires : goal.copy_term-copy_part-copy-requires
copy_term-copy_part-copy-requires t c =
    let w : weight (part_tree c.part-item.result) ≤ weights (trees (map part_tree c.parts-part-items.result.now)) = rw c.part-item.is (weight-at part_tree _ _ _ c.loop-part-test.true) in
    (omega (arith, w, ap weight c.parts-part-items.ensures.parts), tt)

pub copy_pat-copy_pat_part-copy-requires : goal.copy_pat-copy_pat_part-copy-requires
copy_pat-copy_pat_part-copy-requires t c =
    let w : weight (pat_part_tree c.part-item.result) ≤ weights (trees (map pat_part_tree c.parts-part-items.result.now)) = rw c.part-item.is (weight-at pat_part_tree _ _ _ c.loop-part-test.true) in
    (omega (arith, w, ap weight c.parts-part-items.ensures.parts), tt)

pub copy_terms-copy_term-copy-requires : goal.copy_terms-copy_term-copy-requires
copy_terms-copy_term-copy-requires t c =
    let w : weight c.term-item.result ≤ weights (trees c.deref-term-items.result.now) = rw c.term-item.is (tree-at _ _ _ c.loop-term-test.true) in
    (omega (arith, w, ap (λ xs. weights (trees xs)) c.deref-term-items.ensures.value), tt)

pub copy_pats-copy_pat-copy-requires : goal.copy_pats-copy_pat-copy-requires
copy_pats-copy_pat-copy-requires t c =
    let w : weight c.pat-item.result ≤ weights (trees c.deref-pat-items.result.now) = rw c.pat-item.is (tree-at _ _ _ c.loop-pat-test.true) in
    (omega (arith, w, ap (λ xs. weights (trees xs)) c.deref-pat-items.ensures.value), tt)

pub copy_pairs-copy_term-key-requires : goal.copy_pairs-copy_term-key-requires
copy_pairs-copy_term-key-requires t c =
    let w : weight (pair_tree c.pair-item.result) ≤ weights (trees (map pair_tree c.deref-pair-items.result.now)) = rw c.pair-item.is (weight-at pair_tree _ _ _ c.loop-pair-test.true) in
    (omega (arith, w, ap (λ xs. weights (trees (map pair_tree xs))) c.deref-pair-items.ensures.value), tt)

pub copy_pairs-copy_term-value-requires : goal.copy_pairs-copy_term-value-requires
copy_pairs-copy_term-value-requires t c =
    let w : weight (pair_tree c.pair-item.result) ≤ weights (trees (map pair_tree c.deref-pair-items.result.now)) = rw c.pair-item.is (weight-at pair_tree _ _ _ c.loop-pair-test.true) in
    (omega (arith, w, ap (λ xs. weights (trees (map pair_tree xs))) c.deref-pair-items.ensures.value), tt)

pub copy_pat_pairs-copy_pat-key-requires : goal.copy_pat_pairs-copy_pat-key-requires
copy_pat_pairs-copy_pat-key-requires t c =
    let w : weight (pair_tree c.pair-item.result) ≤ weights (trees (map pair_tree c.deref-pair-items.result.now)) = rw c.pair-item.is (weight-at pair_tree _ _ _ c.loop-pair-test.true) in
    (omega (arith, w, ap (λ xs. weights (trees (map pair_tree xs))) c.deref-pair-items.ensures.value), tt)

pub copy_pat_pairs-copy_pat-value-requires : goal.copy_pat_pairs-copy_pat-value-requires
copy_pat_pairs-copy_pat-value-requires t c =
    let w : weight (pair_tree c.pair-item.result) ≤ weights (trees (map pair_tree c.deref-pair-items.result.now)) = rw c.pair-item.is (weight-at pair_tree _ _ _ c.loop-pair-test.true) in
    (omega (arith, w, ap (λ xs. weights (trees (map pair_tree xs))) c.deref-pair-items.ensures.value), tt)

pub copy_binds-copy_bind-copy-requires : goal.copy_binds-copy_bind-copy-requires
copy_binds-copy_bind-copy-requires t c =
    let w : weight (bind_tree c.bind-item.result) ≤ weights (trees (map bind_tree c.deref-bind-items.result.now)) = rw c.bind-item.is (weight-at bind_tree _ _ _ c.loop-bind-test.true) in
    (omega (arith, w, ap (λ xs. weights (trees (map bind_tree xs))) c.deref-bind-items.ensures.value), tt)

pub copy_cases-copy_pat-pat-requires : goal.copy_cases-copy_pat-pat-requires
copy_cases-copy_pat-pat-requires t c =
    let w : weight (case_tree c.case-item.result) ≤ weights (trees (map case_tree c.deref-case-items.result.now)) = rw c.case-item.is (weight-at case_tree _ _ _ c.loop-case-test.true) in
    (omega (arith, w, ap (λ xs. weights (trees (map case_tree xs))) c.deref-case-items.ensures.value), tt)

pub copy_cases-copy_term-body-requires : goal.copy_cases-copy_term-body-requires
copy_cases-copy_term-body-requires t c =
    let w : weight (case_tree c.case-item.result) ≤ weights (trees (map case_tree c.deref-case-items.result.now)) = rw c.case-item.is (weight-at case_tree _ _ _ c.loop-case-test.true) in
    (omega (arith, w, ap (λ xs. weights (trees (map case_tree xs))) c.deref-case-items.ensures.value), tt)

pub copy_terms-loop-term-preserved : goal.copy_terms-loop-term-preserved
copy_terms-loop-term-preserved t c = λ h.
    let k = c.add.ensures h in
    let m = c.copy_term-copy.ensures k.0 in
    let n = c.loop-term.invariant m.0 in
    let g = turn-item _ _ _ _ c.deref-term-items.ensures.value c.term-item.is in
    let i = turn-within _ _ _ c.deref-term-items.ensures.value c.loop-term-test.true in
    (n.0, same-step _ _ _ _ _ _ i g m.1 k.1 n.1)

pub copy_terms-returns : goal.copy_terms-returns
copy_terms-returns t c = λ h.
    let n = c.loop-term.invariant h in
    let i = turns-done _ _ _ c.deref-term-items.ensures.value c.loop-term-test.false in
    (n.0, same-end _ _ _ i n.1)

pub copy_pats-loop-pat-preserved : goal.copy_pats-loop-pat-preserved
copy_pats-loop-pat-preserved t c = λ h.
    let k = c.add.ensures h in
    let m = c.copy_pat-copy.ensures k.0 in
    let n = c.loop-pat.invariant m.0 in
    let g = turn-item _ _ _ _ c.deref-pat-items.ensures.value c.pat-item.is in
    let i = turn-within _ _ _ c.deref-pat-items.ensures.value c.loop-pat-test.true in
    (n.0, same-step _ _ _ _ _ _ i g m.1 k.1 n.1)

pub copy_pats-returns : goal.copy_pats-returns
copy_pats-returns t c = λ h.
    let n = c.loop-pat.invariant h in
    let i = turns-done _ _ _ c.deref-pat-items.ensures.value c.loop-pat-test.false in
    (n.0, same-end _ _ _ i n.1)

pub copy_binds-loop-bind-preserved : goal.copy_binds-loop-bind-preserved
copy_binds-loop-bind-preserved t c = λ h.
    let k = c.add.ensures h in
    let m = c.copy_bind-copy.ensures k.0 in
    let n = c.loop-bind.invariant m.0 in
    let g = turn-item _ _ _ _ c.deref-bind-items.ensures.value c.bind-item.is in
    let i = turn-within _ _ _ c.deref-bind-items.ensures.value c.loop-bind-test.true in
    (n.0, copied-step bind_tree _ _ _ _ _ _ i g m.1 k.1 n.1)

pub copy_binds-returns : goal.copy_binds-returns
copy_binds-returns t c = λ h.
    let n = c.loop-bind.invariant h in
    let i = turns-done _ _ _ c.deref-bind-items.ensures.value c.loop-bind-test.false in
    (n.0, copied-end bind_tree _ _ _ i n.1)

pub copy_pairs-loop-pair-preserved : goal.copy_pairs-loop-pair-preserved
copy_pairs-loop-pair-preserved t c = λ h.
    let k = c.add.ensures h in
    let b = c.copy_term-value.ensures k.0 in
    let m = c.copy_term-key.ensures b.0 in
    let n = c.loop-pair.invariant m.0 in
    let g = turn-item _ _ _ _ c.deref-pair-items.ensures.value c.pair-item.is in
    let i = turn-within _ _ _ c.deref-pair-items.ensures.value c.loop-pair-test.true in
    let e : pair_tree (c.copy_term-key.result, c.copy_term-value.result) ≡ pair_tree c.pair-item.result = cc (m.1, b.1) in
    (n.0, copied-step pair_tree _ _ _ _ _ _ i g e k.1 n.1)

pub copy_pairs-returns : goal.copy_pairs-returns
copy_pairs-returns t c = λ h.
    let n = c.loop-pair.invariant h in
    let i = turns-done _ _ _ c.deref-pair-items.ensures.value c.loop-pair-test.false in
    (n.0, copied-end pair_tree _ _ _ i n.1)

pub copy_pat_pairs-loop-pair-preserved : goal.copy_pat_pairs-loop-pair-preserved
copy_pat_pairs-loop-pair-preserved t c = λ h.
    let k = c.add.ensures h in
    let b = c.copy_pat-value.ensures k.0 in
    let m = c.copy_pat-key.ensures b.0 in
    let n = c.loop-pair.invariant m.0 in
    let g = turn-item _ _ _ _ c.deref-pair-items.ensures.value c.pair-item.is in
    let i = turn-within _ _ _ c.deref-pair-items.ensures.value c.loop-pair-test.true in
    let e : pair_tree (c.copy_pat-key.result, c.copy_pat-value.result) ≡ pair_tree c.pair-item.result = cc (m.1, b.1) in
    (n.0, copied-step pair_tree _ _ _ _ _ _ i g e k.1 n.1)

pub copy_pat_pairs-returns : goal.copy_pat_pairs-returns
copy_pat_pairs-returns t c = λ h.
    let n = c.loop-pair.invariant h in
    let i = turns-done _ _ _ c.deref-pair-items.ensures.value c.loop-pair-test.false in
    (n.0, copied-end pair_tree _ _ _ i n.1)

pub copy_cases-loop-case-preserved : goal.copy_cases-loop-case-preserved
copy_cases-loop-case-preserved t c = λ h.
    let k = c.add.ensures h in
    let b = c.copy_term-body.ensures k.0 in
    let m = c.copy_pat-pat.ensures b.0 in
    let n = c.loop-case.invariant m.0 in
    let g = turn-item _ _ _ _ c.deref-case-items.ensures.value c.case-item.is in
    let i = turn-within _ _ _ c.deref-case-items.ensures.value c.loop-case-test.true in
    let e : two case c.copy_pat-pat.result c.copy_term-body.result ≡ case_tree c.case-item.result = cc (m.1, b.1) in
    (n.0, copied-step case_tree _ _ _ _ _ _ i g e k.1 n.1)

pub copy_cases-returns : goal.copy_cases-returns
copy_cases-returns t c = λ h.
    let n = c.loop-case.invariant h in
    let i = turns-done _ _ _ c.deref-case-items.ensures.value c.loop-case-test.false in
    (n.0, copied-end case_tree _ _ _ i n.1)

pub copy_term-loop-part-preserved : goal.copy_term-loop-part-preserved
copy_term-loop-part-preserved t c = λ h.
    let k = c.add.ensures h in
    let m = c.copy_part-copy.ensures k.0 in
    let n = c.loop-part.invariant m.0 in
    (n.0, copied-step part_tree _ _ _ _ _ _ c.loop-part-test.true c.part-item.is m.1 k.1 n.1)

pub copy_term-term-requires : goal.copy_term-term-requires
copy_term-term-requires t c = λ h.
    let n = c.loop-part.invariant h in
    ap (many par) (copied-end part_tree _ _ _ c.loop-part-test.false n.1) ∙ sym c.parts-part-items.ensures.parts

pub copy_term-returns : goal.copy_term-returns
copy_term-returns t c = λ h. ((c.loop-part.invariant h).0, c.term.ensures h)

pub copy_pat-loop-part-preserved : goal.copy_pat-loop-part-preserved
copy_pat-loop-part-preserved t c = λ h.
    let k = c.add.ensures h in
    let m = c.copy_pat_part-copy.ensures k.0 in
    let n = c.loop-part.invariant m.0 in
    (n.0, copied-step pat_part_tree _ _ _ _ _ _ c.loop-part-test.true c.part-item.is m.1 k.1 n.1)

pub copy_pat-pattern-requires : goal.copy_pat-pattern-requires
copy_pat-pattern-requires t c = λ h.
    let n = c.loop-part.invariant h in
    ap (many pattern) (copied-end pat_part_tree _ _ _ c.loop-part-test.false n.1) ∙ sym c.parts-part-items.ensures.parts

pub copy_pat-returns : goal.copy_pat-returns
copy_pat-returns t c = λ h. ((c.loop-part.invariant h).0, c.pattern.ensures h)

pub copy_bind-returns : goal.copy_bind-returns
copy_bind-returns t c = λ h.
    let b = c.copy_term.ensures h in
    let a = c.copy_pats.ensures b.0 in
    (a.0, cc (a.1, b.1))

pub copy_part-returns-in-Ground : goal.copy_part-returns-in-Ground
copy_part-returns-in-Ground t c = λ h.
    let a = c.copy_ground.ensures h in
    (a.0, rw c.in-Ground.is (ap leaf a.1))

pub copy_part-returns-in-Fresh : goal.copy_part-returns-in-Fresh
copy_part-returns-in-Fresh t c = λ h. (h, ap part_tree (sym c.in-Fresh.is))

pub copy_part-returns-in-Var : goal.copy_part-returns-in-Var
copy_part-returns-in-Var t c = λ h. (h, ap part_tree (sym c.in-Var.is))

pub copy_part-returns-in-NameVar : goal.copy_part-returns-in-NameVar
copy_part-returns-in-NameVar t c = λ h. (h, ap part_tree (sym c.in-NameVar.is))

pub copy_part-returns-in-List : goal.copy_part-returns-in-List
copy_part-returns-in-List t c = λ h.
    let a = c.copy_terms.ensures h in
    (a.0, rw c.in-List.is (ap (many list) a.1))

pub copy_part-returns-in-Tuple : goal.copy_part-returns-in-Tuple
copy_part-returns-in-Tuple t c = λ h.
    let a = c.copy_terms-in-Tuple.ensures h in
    (a.0, rw c.in-Tuple.is (ap (many tuple) a.1))

pub copy_part-returns-in-Set : goal.copy_part-returns-in-Set
copy_part-returns-in-Set t c = λ h.
    let a = c.copy_terms-in-Set.ensures h in
    (a.0, rw c.in-Set.is (ap (many set) a.1))

pub copy_part-returns-in-Map : goal.copy_part-returns-in-Map
copy_part-returns-in-Map t c = λ h.
    let a = c.copy_pairs.ensures h in
    (a.0, rw c.in-Map.is (ap (many dict) a.1))

pub copy_part-returns-in-Send : goal.copy_part-returns-in-Send
copy_part-returns-in-Send t c = λ h.
    let b = c.copy_terms-in-Send.ensures h in
    let a = c.copy_term.ensures b.0 in
    (a.0, rw c.in-Send.is (two-same (send c.in-Send.persistent) _ _ _ _ a.1 (ap (many row) b.1)))

pub copy_part-returns-in-Receive : goal.copy_part-returns-in-Receive
copy_part-returns-in-Receive t c = λ h.
    let b = c.copy_term-in-Receive.ensures h in
    let a = c.copy_binds.ensures b.0 in
    (a.0, rw c.in-Receive.is (two-same (receive c.in-Receive.kind) _ _ _ _ (ap (many row) a.1) b.1))

pub copy_part-returns-in-Match : goal.copy_part-returns-in-Match
copy_part-returns-in-Match t c = λ h.
    let b = c.copy_cases.ensures h in
    let a = c.copy_term-in-Match.ensures b.0 in
    (a.0, rw c.in-Match.is (two-same match _ _ _ _ a.1 (ap (many row) b.1)))

pub copy_part-returns-in-Bundle : goal.copy_part-returns-in-Bundle
copy_part-returns-in-Bundle t c = λ h.
    let a = c.copy_term-in-Bundle.ensures h in
    (a.0, rw c.in-Bundle.is (ap (one (bundle c.in-Bundle.rights)) a.1))

pub copy_part-returns-in-Unary : goal.copy_part-returns-in-Unary
copy_part-returns-in-Unary t c = λ h.
    let a = c.copy_term-in-Unary.ensures h in
    (a.0, rw c.in-Unary.is (ap (one (unary c.in-Unary.op)) a.1))

pub copy_part-returns-in-Binary : goal.copy_part-returns-in-Binary
copy_part-returns-in-Binary t c = λ h.
    let b = c.copy_term-in-Binary-2.ensures h in
    let a = c.copy_term-in-Binary.ensures b.0 in
    (a.0, rw c.in-Binary.is (two-same (binary c.in-Binary.op) _ _ _ _ a.1 b.1))

pub copy_pat_part-returns-in-Wild : goal.copy_pat_part-returns-in-Wild
copy_pat_part-returns-in-Wild t c = λ h. (h, ap pat_part_tree (sym c.in-Wild.is))

pub copy_pat_part-returns-in-Var : goal.copy_pat_part-returns-in-Var
copy_pat_part-returns-in-Var t c = λ h. (h, ap pat_part_tree (sym c.in-Var.is))

pub copy_pat_part-returns-in-NameVar : goal.copy_pat_part-returns-in-NameVar
copy_pat_part-returns-in-NameVar t c = λ h. (h, ap pat_part_tree (sym c.in-NameVar.is))

pub copy_pat_part-returns-in-Simple : goal.copy_pat_part-returns-in-Simple
copy_pat_part-returns-in-Simple t c = λ h. (h, ap pat_part_tree (sym c.in-Simple.is))

pub copy_pat_part-returns-in-Same : goal.copy_pat_part-returns-in-Same
copy_pat_part-returns-in-Same t c = λ h.
    let a = c.copy_term.ensures h in
    (a.0, rw c.in-Same.is (ap (one same) a.1))

pub copy_pat_part-returns-in-Ground : goal.copy_pat_part-returns-in-Ground
copy_pat_part-returns-in-Ground t c = λ h.
    let a = c.copy_ground.ensures h in
    (a.0, rw c.in-Ground.is (ap leaf a.1))

pub copy_pat_part-returns-in-Both : goal.copy_pat_part-returns-in-Both
copy_pat_part-returns-in-Both t c = λ h.
    let b = c.copy_pat-in-Both.ensures h in
    let a = c.copy_pat.ensures b.0 in
    (a.0, rw c.in-Both.is (two-same both _ _ _ _ a.1 b.1))

pub copy_pat_part-returns-in-Either : goal.copy_pat_part-returns-in-Either
copy_pat_part-returns-in-Either t c = λ h.
    let b = c.copy_pat-in-Either-2.ensures h in
    let a = c.copy_pat-in-Either.ensures b.0 in
    (a.0, rw c.in-Either.is (two-same either _ _ _ _ a.1 b.1))

pub copy_pat_part-returns-in-Not : goal.copy_pat_part-returns-in-Not
copy_pat_part-returns-in-Not t c = λ h.
    let a = c.copy_pat-in-Not.ensures h in
    (a.0, rw c.in-Not.is (ap (one not_this) a.1))

pub copy_pat_part-returns-in-List : goal.copy_pat_part-returns-in-List
copy_pat_part-returns-in-List t c = λ h.
    let a = c.copy_pats.ensures h in
    (a.0, rw c.in-List.is (two-same list_pattern _ _ _ _ (ap (many row) a.1) refl))

pub copy_pat_part-returns-in-Tuple : goal.copy_pat_part-returns-in-Tuple
copy_pat_part-returns-in-Tuple t c = λ h.
    let a = c.copy_pats-in-Tuple.ensures h in
    (a.0, rw c.in-Tuple.is (ap (many tuple) a.1))

pub copy_pat_part-returns-in-Set : goal.copy_pat_part-returns-in-Set
copy_pat_part-returns-in-Set t c = λ h.
    let a = c.copy_pats-in-Set.ensures h in
    (a.0, rw c.in-Set.is (two-same set_pattern _ _ _ _ (ap (many row) a.1) refl))

pub copy_pat_part-returns-in-Map : goal.copy_pat_part-returns-in-Map
copy_pat_part-returns-in-Map t c = λ h.
    let a = c.copy_pat_pairs.ensures h in
    (a.0, rw c.in-Map.is (two-same map_pattern _ _ _ _ (ap (many row) a.1) refl))

pub copy_pat_part-returns-in-Send : goal.copy_pat_part-returns-in-Send
copy_pat_part-returns-in-Send t c = λ h.
    let b = c.copy_pats-in-Send.ensures h in
    let a = c.copy_pat-in-Send.ensures b.0 in
    (a.0, rw c.in-Send.is (two-same (send c.in-Send.persistent) _ _ _ _ a.1 (ap (many row) b.1)))

pub copy_pat_part-returns-in-Bundle : goal.copy_pat_part-returns-in-Bundle
copy_pat_part-returns-in-Bundle t c = λ h.
    let a = c.copy_pat-in-Bundle.ensures h in
    (a.0, rw c.in-Bundle.is (ap (one (bundle c.in-Bundle.rights)) a.1))

pub copy_pat_part-returns-in-Closed : goal.copy_pat_part-returns-in-Closed
copy_pat_part-returns-in-Closed t c = λ h.
    let a = c.copy_part.ensures h in
    (a.0, rw c.in-Closed.is (a.1))
