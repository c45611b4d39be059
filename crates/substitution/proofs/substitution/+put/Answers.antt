use Rattle.std.proofs.Common.{◌≤◌, arith, ap, sym, map, drop, subst, refl, rules}
use Rattle.calculus.specs.Tree.{fresh, weight, weights, trees, list, tuple, set, dict, pair, send, receive, bind, match, case, bundle, unary, binary, rest, any, some_process, some_name, simple, same, both, either, not_this, list_pattern, set_pattern, map_pattern}
use Rattle.rho_term.specs.Parts.{part_tree, pat_part_tree, pair_tree, bind_tree, case_tree, ground_tree}
use Rattle.rho_term.proofs.Trees.{weight-at, tree-at}
use Rattle.term_bounds.specs.Filled.{IsForm}
use Rattle.substitution.specs.Becoming.{Becomes, change_of}
use Rattle.term_bounds.proofs.Filling.{part-form, pat_part-form}
use Rattle.substitution.proofs.Becoming.{flat, rows, one-becomes, two-becomes, three-becomes, two-bind, new-becomes, method-becomes, leaf-becomes, ground-becomes, process-becomes, pattern-becomes}
use Rattle.substitution.proofs.Made.{next-one, no-more, turn-tree, turn-map, turn-thing, all-become, grows, grows-closed, bag-made}
use Rattle.substitution.proofs.substitution.+put.Goals as goal

pub put_term-put_part-requires : goal.put_term-put_part-requires
put_term-put_part-requires t c =
    let w : weight (part_tree c.part-item.result) ≤ weights (trees (map part_tree c.parts-part-items.result.now)) = rw c.part-item.is (weight-at part_tree _ _ _ c.loop-part-test.true) in
    (omega (arith, w, ap weight c.parts-part-items.ensures.parts), tt)

pub put_pat-put_pat_part-requires : goal.put_pat-put_pat_part-requires
put_pat-put_pat_part-requires t c =
    let w : weight (pat_part_tree c.part-item.result) ≤ weights (trees (map pat_part_tree c.parts-part-items.result.now)) = rw c.part-item.is (weight-at pat_part_tree _ _ _ c.loop-part-test.true) in
    (omega (arith, w, ap weight c.parts-part-items.ensures.parts), tt)

pub put_terms-put_term-made-requires : goal.put_terms-put_term-made-requires
put_terms-put_term-made-requires t c =
    let w : weight c.term-item.result ≤ weights (trees c.deref-term-items.result.now) = rw c.term-item.is (tree-at _ _ _ c.loop-term-test.true) in
    (omega (arith, w, ap (λ xs. weights (trees xs)) c.deref-term-items.ensures.value), tt)

pub put_pats-put_pat-made-requires : goal.put_pats-put_pat-made-requires
put_pats-put_pat-made-requires t c =
    let w : weight c.pat-item.result ≤ weights (trees c.deref-pat-items.result.now) = rw c.pat-item.is (tree-at _ _ _ c.loop-pat-test.true) in
    (omega (arith, w, ap (λ xs. weights (trees xs)) c.deref-pat-items.ensures.value), tt)

pub put_pairs-put_term-key-requires : goal.put_pairs-put_term-key-requires
put_pairs-put_term-key-requires t c =
    let w : weight (pair_tree c.pair-item.result) ≤ weights (trees (map pair_tree c.deref-pair-items.result.now)) = rw c.pair-item.is (weight-at pair_tree _ _ _ c.loop-pair-test.true) in
    (omega (arith, w, ap (λ xs. weights (trees (map pair_tree xs))) c.deref-pair-items.ensures.value), tt)

pub put_pairs-put_term-value-requires : goal.put_pairs-put_term-value-requires
put_pairs-put_term-value-requires t c =
    let w : weight (pair_tree c.pair-item.result) ≤ weights (trees (map pair_tree c.deref-pair-items.result.now)) = rw c.pair-item.is (weight-at pair_tree _ _ _ c.loop-pair-test.true) in
    (omega (arith, w, ap (λ xs. weights (trees (map pair_tree xs))) c.deref-pair-items.ensures.value), tt)

pub put_pat_pairs-put_pat-key-requires : goal.put_pat_pairs-put_pat-key-requires
put_pat_pairs-put_pat-key-requires t c =
    let w : weight (pair_tree c.pair-item.result) ≤ weights (trees (map pair_tree c.deref-pair-items.result.now)) = rw c.pair-item.is (weight-at pair_tree _ _ _ c.loop-pair-test.true) in
    (omega (arith, w, ap (λ xs. weights (trees (map pair_tree xs))) c.deref-pair-items.ensures.value), tt)

pub put_pat_pairs-put_pat-value-requires : goal.put_pat_pairs-put_pat-value-requires
put_pat_pairs-put_pat-value-requires t c =
    let w : weight (pair_tree c.pair-item.result) ≤ weights (trees (map pair_tree c.deref-pair-items.result.now)) = rw c.pair-item.is (weight-at pair_tree _ _ _ c.loop-pair-test.true) in
    (omega (arith, w, ap (λ xs. weights (trees (map pair_tree xs))) c.deref-pair-items.ensures.value), tt)

pub put_binds-put_term-channel-requires : goal.put_binds-put_term-channel-requires
put_binds-put_term-channel-requires t c =
    let w : weight (bind_tree c.bind-item.result) ≤ weights (trees (map bind_tree c.deref-bind-items.result.now)) = rw c.bind-item.is (weight-at bind_tree _ _ _ c.loop-bind-test.true) in
    (omega (arith, w, ap (λ xs. weights (trees (map bind_tree xs))) c.deref-bind-items.ensures.value), tt)

pub put_binds-put_pats-pats-requires : goal.put_binds-put_pats-pats-requires
put_binds-put_pats-pats-requires t c =
    let w : weight (bind_tree c.bind-item.result) ≤ weights (trees (map bind_tree c.deref-bind-items.result.now)) = rw c.bind-item.is (weight-at bind_tree _ _ _ c.loop-bind-test.true) in
    (omega (arith, w, ap (λ xs. weights (trees (map bind_tree xs))) c.deref-bind-items.ensures.value), tt)

pub put_cases-put_pat-pat-requires : goal.put_cases-put_pat-pat-requires
put_cases-put_pat-pat-requires t c =
    let w : weight (case_tree c.case-item.result) ≤ weights (trees (map case_tree c.deref-case-items.result.now)) = rw c.case-item.is (weight-at case_tree _ _ _ c.loop-case-test.true) in
    (omega (arith, w, ap (λ xs. weights (trees (map case_tree xs))) c.deref-case-items.ensures.value), tt)

pub put_cases-put_term-body-requires : goal.put_cases-put_term-body-requires
put_cases-put_term-body-requires t c =
    let w : weight (case_tree c.case-item.result) ≤ weights (trees (map case_tree c.deref-case-items.result.now)) = rw c.case-item.is (weight-at case_tree _ _ _ c.loop-case-test.true) in
    (omega (arith, w, ap (λ xs. weights (trees (map case_tree xs))) c.deref-case-items.ensures.value), tt)

pub put_terms-loop-term-preserved : goal.put_terms-loop-term-preserved
put_terms-loop-term-preserved t c = λ h.
    let f = change_of c.args.replacement.now in let n = c.args.depth in
    let k = c.add.ensures h in
    let m = c.put_term-made.ensures k.0 in
    let i = c.loop-term.invariant m.0 in
    (i.0, turn-tree f n _ _ c.args.terms.now.items _ _ _ (next-one c.args.terms.now.items c.deref-term-items.result.now c.loop-term.term-index c.term-item.result c.deref-term-items.ensures.value c.loop-term-test.true c.term-item.is) k.1 m.1 i.1)

pub put_terms-returns : goal.put_terms-returns
put_terms-returns t c = λ h.
    let f = change_of c.args.replacement.now in let n = c.args.depth in
    let i = c.loop-term.invariant h in
    (i.0, all-become f n c.args.terms.now.items _ _ (no-more c.args.terms.now.items c.deref-term-items.result.now c.loop-term.term-index c.deref-term-items.ensures.value c.loop-term-test.false) i.1)

pub put_pats-loop-pat-preserved : goal.put_pats-loop-pat-preserved
put_pats-loop-pat-preserved t c = λ h.
    let f = change_of c.args.replacement.now in let n = c.args.depth in
    let k = c.add.ensures h in
    let m = c.put_pat-made.ensures k.0 in
    let i = c.loop-pat.invariant m.0 in
    (i.0, turn-tree f n _ _ c.args.pats.now.items _ _ _ (next-one c.args.pats.now.items c.deref-pat-items.result.now c.loop-pat.pat-index c.pat-item.result c.deref-pat-items.ensures.value c.loop-pat-test.true c.pat-item.is) k.1 m.1 i.1)

pub put_pats-returns : goal.put_pats-returns
put_pats-returns t c = λ h.
    let f = change_of c.args.replacement.now in let n = c.args.depth in
    let i = c.loop-pat.invariant h in
    (i.0, all-become f n c.args.pats.now.items _ _ (no-more c.args.pats.now.items c.deref-pat-items.result.now c.loop-pat.pat-index c.deref-pat-items.ensures.value c.loop-pat-test.false) i.1)

pub put_pairs-loop-pair-preserved : goal.put_pairs-loop-pair-preserved
put_pairs-loop-pair-preserved t c = λ h.
    let f = change_of c.args.replacement.now in let n = c.args.depth in
    let k = c.add.ensures h in
    let v = c.put_term-value.ensures k.0 in
    let m = c.put_term-key.ensures v.0 in
    let i = c.loop-pair.invariant m.0 in
    (i.0, turn-thing f n pair_tree _ _ c.args.pairs.now.items _ _ _ (next-one c.args.pairs.now.items c.deref-pair-items.result.now c.loop-pair.pair-index c.pair-item.result c.deref-pair-items.ensures.value c.loop-pair-test.true c.pair-item.is) k.1 (two-becomes f n pair (tt, λ ts. refl) refl _ _ _ _ m.1 v.1) i.1)

pub put_pat_pairs-loop-pair-preserved : goal.put_pat_pairs-loop-pair-preserved
put_pat_pairs-loop-pair-preserved t c = λ h.
    let f = change_of c.args.replacement.now in let n = c.args.depth in
    let k = c.add.ensures h in
    let v = c.put_pat-value.ensures k.0 in
    let m = c.put_pat-key.ensures v.0 in
    let i = c.loop-pair.invariant m.0 in
    (i.0, turn-thing f n pair_tree _ _ c.args.pairs.now.items _ _ _ (next-one c.args.pairs.now.items c.deref-pair-items.result.now c.loop-pair.pair-index c.pair-item.result c.deref-pair-items.ensures.value c.loop-pair-test.true c.pair-item.is) k.1 (two-becomes f n pair (tt, λ ts. refl) refl _ _ _ _ m.1 v.1) i.1)

pub put_binds-loop-bind-preserved : goal.put_binds-loop-bind-preserved
put_binds-loop-bind-preserved t c = λ h.
    let f = change_of c.args.replacement.now in let n = c.args.depth in
    let k = c.add.ensures h in
    let p = c.put_pats-pats.ensures k.0 in
    let m = c.put_term-channel.ensures p.0 in
    let i = c.loop-bind.invariant m.0 in
    let r = rest c.bind-item.result.rest in
    (i.0, turn-thing f n bind_tree _ _ c.args.binds.now.items _ _ _ (next-one c.args.binds.now.items c.deref-bind-items.result.now c.loop-bind.bind-index c.bind-item.result c.deref-bind-items.ensures.value c.loop-bind-test.true c.bind-item.is) k.1 (three-becomes f n bind (tt, λ ts. refl) refl _ _ _ _ _ _ m.1 (rows f n _ _ p.1) (leaf-becomes f n r (tt, λ ts. refl) refl)) i.1)

pub put_cases-loop-case-preserved : goal.put_cases-loop-case-preserved
put_cases-loop-case-preserved t c = λ h.
    let f = change_of c.args.replacement.now in let n = c.args.depth in
    let k = c.add.ensures h in
    let b = c.put_term-body.ensures k.0 in
    let m = c.put_pat-pat.ensures b.0 in
    let i = c.loop-case.invariant m.0 in
    (i.0, turn-thing f n case_tree _ _ c.args.cases.now.items _ _ _ (next-one c.args.cases.now.items c.deref-case-items.result.now c.loop-case.case-index c.case-item.result c.deref-case-items.ensures.value c.loop-case-test.true c.case-item.is) k.1 (two-bind f n case tt refl (λ ts. refl) c.case-item.result.pat _ c.case-item.result.body _ c.plus-bound.result (omega arith) c.plus-inner.result (omega arith) m.1 b.1) i.1)

pub put_pairs-returns : goal.put_pairs-returns
put_pairs-returns t c = λ h.
    let f = change_of c.args.replacement.now in let n = c.args.depth in
    let i = c.loop-pair.invariant h in
    (i.0, all-become f n (map pair_tree c.args.pairs.now.items) _ _ (ap (map pair_tree) (no-more c.args.pairs.now.items c.deref-pair-items.result.now c.loop-pair.pair-index c.deref-pair-items.ensures.value c.loop-pair-test.false)) i.1)

pub put_pat_pairs-returns : goal.put_pat_pairs-returns
put_pat_pairs-returns t c = λ h.
    let f = change_of c.args.replacement.now in let n = c.args.depth in
    let i = c.loop-pair.invariant h in
    (i.0, all-become f n (map pair_tree c.args.pairs.now.items) _ _ (ap (map pair_tree) (no-more c.args.pairs.now.items c.deref-pair-items.result.now c.loop-pair.pair-index c.deref-pair-items.ensures.value c.loop-pair-test.false)) i.1)

pub put_binds-returns : goal.put_binds-returns
put_binds-returns t c = λ h.
    let f = change_of c.args.replacement.now in let n = c.args.depth in
    let i = c.loop-bind.invariant h in
    (i.0, all-become f n (map bind_tree c.args.binds.now.items) _ _ (ap (map bind_tree) (no-more c.args.binds.now.items c.deref-bind-items.result.now c.loop-bind.bind-index c.deref-bind-items.ensures.value c.loop-bind-test.false)) i.1)

pub put_cases-returns : goal.put_cases-returns
put_cases-returns t c = λ h.
    let f = change_of c.args.replacement.now in let n = c.args.depth in
    let i = c.loop-case.invariant h in
    (i.0, all-become f n (map case_tree c.args.cases.now.items) _ _ (ap (map case_tree) (no-more c.args.cases.now.items c.deref-case-items.result.now c.loop-case.case-index c.deref-case-items.ensures.value c.loop-case-test.false)) i.1)

pub put_term-loop-part-preserved : goal.put_term-loop-part-preserved
put_term-loop-part-preserved t c = λ h.
    let f = change_of c.args.replacement.now in let n = c.args.depth in
    let m = c.put_part.ensures h in
    let i = c.loop-part.invariant m.0 in
    let e = next-one c.parts-part-items.result.now c.parts-part-items.result.now c.loop-part.part-index c.part-item.result refl c.loop-part-test.true c.part-item.is in
    (i.0, (turn-map f n part_tree c.loop-part.parts.items c.put_part.new.out.items c.parts-part-items.result.now c.loop-part.part-index c.part-item.result e m.1.0 i.1.0, m.1.1 i.1.1))

pub put_term-process-requires : goal.put_term-process-requires
put_term-process-requires t c = λ h. (c.loop-part.invariant h).1.1

pub put_pat-loop-part-preserved : goal.put_pat-loop-part-preserved
put_pat-loop-part-preserved t c = λ h.
    let f = change_of c.args.replacement.now in let n = c.args.depth in
    let m = c.put_pat_part.ensures h in
    let i = c.loop-part.invariant m.0 in
    let e = next-one c.parts-part-items.result.now c.parts-part-items.result.now c.loop-part.part-index c.part-item.result refl c.loop-part-test.true c.part-item.is in
    (i.0, (turn-map f n pat_part_tree c.loop-part.parts.items c.put_pat_part.new.out.items c.parts-part-items.result.now c.loop-part.part-index c.part-item.result e m.1.0 i.1.0, m.1.1 i.1.1))

pub put_pat-pattern-requires : goal.put_pat-pattern-requires
put_pat-pattern-requires t c = λ h. (c.loop-part.invariant h).1.1

pub put_term-returns : goal.put_term-returns
put_term-returns t c = λ h.
    let f = change_of c.args.replacement.now in let n = c.args.depth in
    let k = c.process.ensures h in
    let i = c.loop-part.invariant k.0 in
    (i.0, process-becomes f n _ _ _ _ c.parts-part-items.ensures.parts k.1 (all-become f n (map part_tree c.parts-part-items.result.now) (map part_tree c.loop-part.parts.items) (map part_tree (drop c.loop-part.part-index c.parts-part-items.result.now)) (ap (map part_tree) (no-more c.parts-part-items.result.now c.parts-part-items.result.now c.loop-part.part-index refl c.loop-part-test.false)) i.1.0))

pub put_pat-returns : goal.put_pat-returns
put_pat-returns t c = λ h.
    let f = change_of c.args.replacement.now in let n = c.args.depth in
    let i = c.loop-part.invariant h in
    (i.0, pattern-becomes f n _ _ _ _ c.parts-part-items.ensures.parts (c.pattern.ensures h) (all-become f n (map pat_part_tree c.parts-part-items.result.now) (map pat_part_tree c.loop-part.parts.items) (map pat_part_tree (drop c.loop-part.part-index c.parts-part-items.result.now)) (ap (map pat_part_tree) (no-more c.parts-part-items.result.now c.parts-part-items.result.now c.loop-part.part-index refl c.loop-part-test.false)) i.1.0))

pub put_form-returns-in-Ground : goal.put_form-returns-in-Ground
put_form-returns-in-Ground t c = rw c.in-Ground.is (λ h.
    let f = change_of c.args.replacement.now in let n = c.args.depth in
    let m = c.ground.ensures h in
    (m.0, λ z. subst (Becomes f n (ground_tree _)) (sym m.1) (ground-becomes f n _)))

pub put_form-returns-in-Fresh : goal.put_form-returns-in-Fresh
put_form-returns-in-Fresh t c = rw c.in-Fresh.is (λ h.
    let f = change_of c.args.replacement.now in let n = c.args.depth in
    (h, λ z. leaf-becomes f n (fresh _) (tt, λ ts. refl) refl))

pub put_form-returns-in-Var : goal.put_form-returns-in-Var
put_form-returns-in-Var t c = rw c.in-Var.is (λ h. (h, λ z. absurd z))

pub put_form-returns-in-NameVar : goal.put_form-returns-in-NameVar
put_form-returns-in-NameVar t c = rw c.in-NameVar.is (λ h. (h, λ z. absurd z))

pub put_form-returns-in-List : goal.put_form-returns-in-List
put_form-returns-in-List t c = rw c.in-List.is (λ h.
    let f = change_of c.args.replacement.now in let n = c.args.depth in
    let m = c.put_terms.ensures h in
    (m.0, λ z. flat f n list (tt, λ ts. refl) refl _ _ m.1))

pub put_form-returns-in-Tuple : goal.put_form-returns-in-Tuple
put_form-returns-in-Tuple t c = rw c.in-Tuple.is (λ h.
    let f = change_of c.args.replacement.now in let n = c.args.depth in
    let m = c.put_terms-in-Tuple.ensures h in
    (m.0, λ z. flat f n tuple (tt, λ ts. refl) refl _ _ m.1))

pub put_form-returns-in-Set : goal.put_form-returns-in-Set
put_form-returns-in-Set t c = rw c.in-Set.is (λ h.
    let f = change_of c.args.replacement.now in let n = c.args.depth in
    let k = c.set.ensures h in
    let m = c.put_terms-members.ensures k.0 in
    (m.0, λ z. bag-made f n set (tt, λ ts. refl) refl _ _ _ m.1 k.1))

pub put_form-returns-in-Map : goal.put_form-returns-in-Map
put_form-returns-in-Map t c = rw c.in-Map.is (λ h.
    let f = change_of c.args.replacement.now in let n = c.args.depth in
    let k = c.map.ensures h in
    let m = c.put_pairs-pairs.ensures k.0 in
    (m.0, λ z. bag-made f n dict (tt, λ ts. refl) refl _ _ _ m.1 k.1))

pub put_form-returns-in-Send : goal.put_form-returns-in-Send
put_form-returns-in-Send t c = rw c.in-Send.is (λ h.
    let f = change_of c.args.replacement.now in let n = c.args.depth in
    let k = c.put_terms-args.ensures h in
    let m = c.put_term-channel.ensures k.0 in
    (m.0, λ z. two-becomes f n (send _) (tt, λ ts. refl) refl _ _ _ _ m.1 (rows f n _ _ k.1)))

pub put_form-returns-in-Receive : goal.put_form-returns-in-Receive
put_form-returns-in-Receive t c = rw c.in-Receive.is (λ h.
    let f = change_of c.args.replacement.now in let n = c.args.depth in
    let k = c.put_term-body.ensures h in
    let m = c.put_binds-binds.ensures k.0 in
    (m.0, λ z. two-bind f n (receive _) tt refl (λ ts. refl) _ _ _ _ c.plus-bound.result (omega arith) c.plus-inner.result (omega arith) (rows f n _ _ m.1) k.1))

pub put_form-returns-in-New : goal.put_form-returns-in-New
put_form-returns-in-New t c = rw c.in-New.is (λ h.
    let f = change_of c.args.replacement.now in let n = c.args.depth in
    let k = c.put_term-body-in-New.ensures h in
    let m = c.names-names.ensures k.0 in
    (m.0, λ z. new-becomes f n _ _ m.1 _ _ c.plus-inner-in-New.result (omega arith) k.1))

pub put_form-returns-in-Match : goal.put_form-returns-in-Match
put_form-returns-in-Match t c = rw c.in-Match.is (λ h.
    let f = change_of c.args.replacement.now in let n = c.args.depth in
    let k = c.put_cases-cases.ensures h in
    let m = c.put_term-target.ensures k.0 in
    (m.0, λ z. two-becomes f n match (tt, λ ts. refl) refl _ _ _ _ m.1 (rows f n _ _ k.1)))

pub put_form-returns-in-Bundle : goal.put_form-returns-in-Bundle
put_form-returns-in-Bundle t c = rw c.in-Bundle.is (λ h.
    let f = change_of c.args.replacement.now in let n = c.args.depth in
    let m = c.put_term-body-in-Bundle.ensures h in
    (m.0, λ z. one-becomes f n (bundle _) (tt, λ ts. refl) refl _ _ m.1))

pub put_form-returns-in-Unary : goal.put_form-returns-in-Unary
put_form-returns-in-Unary t c = rw c.in-Unary.is (λ h.
    let f = change_of c.args.replacement.now in let n = c.args.depth in
    let m = c.put_term-arg.ensures h in
    (m.0, λ z. one-becomes f n (unary _) (tt, λ ts. refl) refl _ _ m.1))

pub put_form-returns-in-Binary : goal.put_form-returns-in-Binary
put_form-returns-in-Binary t c = rw c.in-Binary.is (λ h.
    let f = change_of c.args.replacement.now in let n = c.args.depth in
    let k = c.put_term-right.ensures h in
    let m = c.put_term-left.ensures k.0 in
    (m.0, λ z. two-becomes f n (binary _) (tt, λ ts. refl) refl _ _ _ _ m.1 k.1))

pub put_form-returns-in-Method : goal.put_form-returns-in-Method
put_form-returns-in-Method t c = rw c.in-Method.is (λ h.
    let f = change_of c.args.replacement.now in let n = c.args.depth in
    let k = c.put_terms-args-in-Method.ensures h in
    let m = c.put_term-target-in-Method.ensures k.0 in
    let x = c.text-name.ensures m.0 in
    (x.0, λ z. method-becomes f n _ _ x.1 _ _ _ _ m.1 (rows f n _ _ k.1)))

pub put_pat_form-returns-in-Wild : goal.put_pat_form-returns-in-Wild
put_pat_form-returns-in-Wild t c = rw c.in-Wild.is (λ h.
    let f = change_of c.args.replacement.now in let n = c.args.depth in
    (h, λ z. leaf-becomes f n any (tt, λ ts. refl) refl))

pub put_pat_form-returns-in-Var : goal.put_pat_form-returns-in-Var
put_pat_form-returns-in-Var t c = rw c.in-Var.is (λ h.
    let f = change_of c.args.replacement.now in let n = c.args.depth in
    (h, λ z. leaf-becomes f n some_process (tt, λ ts. refl) refl))

pub put_pat_form-returns-in-NameVar : goal.put_pat_form-returns-in-NameVar
put_pat_form-returns-in-NameVar t c = rw c.in-NameVar.is (λ h.
    let f = change_of c.args.replacement.now in let n = c.args.depth in
    (h, λ z. leaf-becomes f n some_name (tt, λ ts. refl) refl))

pub put_pat_form-returns-in-Simple : goal.put_pat_form-returns-in-Simple
put_pat_form-returns-in-Simple t c = rw c.in-Simple.is (λ h.
    let f = change_of c.args.replacement.now in let n = c.args.depth in
    (h, λ z. leaf-becomes f n (simple _) (tt, λ ts. refl) refl))

pub put_pat_form-returns-in-Same : goal.put_pat_form-returns-in-Same
put_pat_form-returns-in-Same t c = rw c.in-Same.is (λ h.
    let f = change_of c.args.replacement.now in let n = c.args.depth in
    let m = c.put_term.ensures h in
    (m.0, λ z. one-becomes f n same (tt, λ ts. refl) refl _ _ m.1))

pub put_pat_form-returns-in-Ground : goal.put_pat_form-returns-in-Ground
put_pat_form-returns-in-Ground t c = rw c.in-Ground.is (λ h.
    let f = change_of c.args.replacement.now in let n = c.args.depth in
    let m = c.ground.ensures h in
    (m.0, λ z. subst (Becomes f n (ground_tree _)) (sym m.1) (ground-becomes f n _)))

pub put_pat_form-returns-in-Both : goal.put_pat_form-returns-in-Both
put_pat_form-returns-in-Both t c = rw c.in-Both.is (λ h.
    let f = change_of c.args.replacement.now in let n = c.args.depth in
    let k = c.put_pat-right.ensures h in
    let m = c.put_pat-left.ensures k.0 in
    (m.0, λ z. two-becomes f n both (tt, λ ts. refl) refl _ _ _ _ m.1 k.1))

pub put_pat_form-returns-in-Either : goal.put_pat_form-returns-in-Either
put_pat_form-returns-in-Either t c = rw c.in-Either.is (λ h.
    let f = change_of c.args.replacement.now in let n = c.args.depth in
    let k = c.put_pat-right-in-Either.ensures h in
    let m = c.put_pat-left-in-Either.ensures k.0 in
    (m.0, λ z. two-becomes f n either (tt, λ ts. refl) refl _ _ _ _ m.1 k.1))

pub put_pat_form-returns-in-Not : goal.put_pat_form-returns-in-Not
put_pat_form-returns-in-Not t c = rw c.in-Not.is (λ h.
    let f = change_of c.args.replacement.now in let n = c.args.depth in
    let m = c.put_pat.ensures h in
    (m.0, λ z. one-becomes f n not_this (tt, λ ts. refl) refl _ _ m.1))

pub put_pat_form-returns-in-List : goal.put_pat_form-returns-in-List
put_pat_form-returns-in-List t c = rw c.in-List.is (λ h.
    let f = change_of c.args.replacement.now in let n = c.args.depth in
    let m = c.put_pats.ensures h in
    (m.0, λ z. two-becomes f n list_pattern (tt, λ ts. refl) refl _ _ _ _ (rows f n _ _ m.1) (leaf-becomes f n (rest _) (tt, λ ts. refl) refl)))

pub put_pat_form-returns-in-Tuple : goal.put_pat_form-returns-in-Tuple
put_pat_form-returns-in-Tuple t c = rw c.in-Tuple.is (λ h.
    let f = change_of c.args.replacement.now in let n = c.args.depth in
    let m = c.put_pats-in-Tuple.ensures h in
    (m.0, λ z. flat f n tuple (tt, λ ts. refl) refl _ _ m.1))

pub put_pat_form-returns-in-Set : goal.put_pat_form-returns-in-Set
put_pat_form-returns-in-Set t c = rw c.in-Set.is (λ h.
    let f = change_of c.args.replacement.now in let n = c.args.depth in
    let m = c.put_pats-in-Set.ensures h in
    (m.0, λ z. two-becomes f n set_pattern (tt, λ ts. refl) refl _ _ _ _ (rows f n _ _ m.1) (leaf-becomes f n (rest _) (tt, λ ts. refl) refl)))

pub put_pat_form-returns-in-Map : goal.put_pat_form-returns-in-Map
put_pat_form-returns-in-Map t c = rw c.in-Map.is (λ h.
    let f = change_of c.args.replacement.now in let n = c.args.depth in
    let m = c.put_pat_pairs.ensures h in
    (m.0, λ z. two-becomes f n map_pattern (tt, λ ts. refl) refl _ _ _ _ (rows f n _ _ m.1) (leaf-becomes f n (rest _) (tt, λ ts. refl) refl)))

pub put_pat_form-returns-in-Send : goal.put_pat_form-returns-in-Send
put_pat_form-returns-in-Send t c = rw c.in-Send.is (λ h.
    let f = change_of c.args.replacement.now in let n = c.args.depth in
    let k = c.put_pats-args.ensures h in
    let m = c.put_pat-channel.ensures k.0 in
    (m.0, λ z. two-becomes f n (send _) (tt, λ ts. refl) refl _ _ _ _ m.1 (rows f n _ _ k.1)))

pub put_pat_form-returns-in-Bundle : goal.put_pat_form-returns-in-Bundle
put_pat_form-returns-in-Bundle t c = rw c.in-Bundle.is (λ h.
    let f = change_of c.args.replacement.now in let n = c.args.depth in
    let m = c.put_pat-body.ensures h in
    (m.0, λ z. one-becomes f n (bundle _) (tt, λ ts. refl) refl _ _ m.1))

pub put_pat_form-returns-in-Closed : goal.put_pat_form-returns-in-Closed
put_pat_form-returns-in-Closed t c = rw c.in-Closed.is c.put_form.ensures

pub put_part-returns-in-Var : goal.put_part-returns-in-Var
put_part-returns-in-Var t c = rw c.in-Var.is c.put_variable.ensures

pub put_part-returns-in-NameVar : goal.put_part-returns-in-NameVar
put_part-returns-in-NameVar t c = rw c.in-NameVar.is c.put_variable-in-NameVar.ensures

pub put_part-returns-in_default : goal.put_part-returns-in_default
put_part-returns-in_default t c = λ h.
    let f = change_of c.args.replacement.now in let n = c.args.depth in
    let z : IsForm (part_tree c.args.part.now) = part-form c.args.part.now c.in_default.not-Var c.in_default.not-NameVar in
    let k = c.add.ensures h in
    let m = c.put_form-made.ensures k.0 in
    (m.0, grows f n part_tree (part_tree c.args.part.now) c.put_form-made.result c.args.out.now.items c.add.new.items.items z (omega arith) (m.1 z) k.1)

pub put_pat_part-returns-in_default : goal.put_pat_part-returns-in_default
put_pat_part-returns-in_default t c = λ h.
    let f = change_of c.args.replacement.now in let n = c.args.depth in
    let z : IsForm (pat_part_tree c.args.part.now) = pat_part-form c.args.part.now c.in_default.not-Closed in
    let k = c.add.ensures h in
    let m = c.put_pat_form-made.ensures k.0 in
    (m.0, grows f n pat_part_tree (pat_part_tree c.args.part.now) c.put_pat_form-made.result c.args.out.now.items c.add.new.items.items z (omega arith) (m.1 z) k.1)

pub put_pat_part-returns-in-Closed : goal.put_pat_part-returns-in-Closed
put_pat_part-returns-in-Closed t c = rw c.in-Closed.is (λ h.
    let f = change_of c.args.replacement.now in let n = c.args.depth in
    let k = c.add_closed.ensures h in
    let m = c.put_part.ensures k.0 in
    (m.0, grows-closed f n _ c.new-parts.result.items c.put_part.new.out.items _ _ (search rules) m.1 k.1))
