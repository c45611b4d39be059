use Rattle.std.proofs.Common.{◌≡◌, List, ℕ, ◌∷◌, [], ◌++◌, ◌≤◌, map, ap, sym, ◌∙◌, subst, refl, rules, arith}
use Rattle.calculus.specs.Code.{code, text}
use Rattle.calculus.specs.Shape.{many}
use Rattle.calculus.specs.Tree.{Tree, row, weight, weights, trees}
use Rattle.rho_term.specs.Normal.{IsNormal, IsOrdered}
use Rattle.rho_term.specs.Parts.{part_tree, pat_part_tree, pair_tree, bind_tree, case_tree}
use Rattle.rho_term.specs.declared.term.Part.{Part}
use Rattle.rho_term.specs.declared.term.PatPart.{PatPart}
use Rattle.rho_term.proofs.Trees.{weight-at, tree-at, map-same, ordered-at}
use Rattle.term_encoder.proofs.Writing.{wrote, wrote_both, wrote_leaf, wrote_one, wrote_two, wrote_next, wrote_row, row-bag}
use Rattle.term_encoder.proofs.encode.+put.Goals as goal

abbrev coded : Part → List ℕ
coded p = code (part_tree p)

abbrev pat_coded : PatPart → List ℕ
pat_coded p = code (pat_part_tree p)

-- a row of terms
same_row : (ts : List Tree) → code (many row (map (λ t. t) ts)) ≡ code (many row ts)
same_row ts = ap (λ us. code (many row us)) (map-same ts)

pub put_term-put_part-requires : goal.put_term-put_part-requires
put_term-put_part-requires t c =
    let w : weight (part_tree c.part-item.result) ≤ weights (trees (map part_tree c.parts-parts.result.now)) = rw c.part-item.is (weight-at part_tree _ _ _ c.loop-part-test.true) in
    let n = subst IsNormal c.parts-parts.ensures.parts c.parts-parts.ensures.normal in
    let h : IsOrdered (part_tree c.part-item.result) = rw c.part-item.is (ordered-at part_tree _ _ _ c.loop-part-test.true n.1) in
    (omega (arith, w, ap weight c.parts-parts.ensures.parts), h)

pub put_pat-put_pat_part-requires : goal.put_pat-put_pat_part-requires
put_pat-put_pat_part-requires t c =
    let w : weight (pat_part_tree c.part-item.result) ≤ weights (trees (map pat_part_tree c.parts-parts.result.now)) = rw c.part-item.is (weight-at pat_part_tree _ _ _ c.loop-part-test.true) in
    let n = subst IsNormal c.parts-parts.ensures.parts c.parts-parts.ensures.normal in
    let h : IsOrdered (pat_part_tree c.part-item.result) = rw c.part-item.is (ordered-at pat_part_tree _ _ _ c.loop-part-test.true n.1) in
    (omega (arith, w, ap weight c.parts-parts.ensures.parts), h)

pub put_terms-put_term-requires : goal.put_terms-put_term-requires
put_terms-put_term-requires t c =
    let w : weight c.term-item.result ≤ weights (trees c.deref-term-items.result.now) = rw c.term-item.is (tree-at _ _ _ c.loop-term-test.true) in
    (omega (arith, w, ap (λ xs. weights (trees xs)) c.deref-term-items.ensures.value), tt)

pub put_pats-put_pat-requires : goal.put_pats-put_pat-requires
put_pats-put_pat-requires t c =
    let w : weight c.pat-item.result ≤ weights (trees c.deref-pat-items.result.now) = rw c.pat-item.is (tree-at _ _ _ c.loop-pat-test.true) in
    (omega (arith, w, ap (λ xs. weights (trees xs)) c.deref-pat-items.ensures.value), tt)

pub put_pairs-put_term-requires : goal.put_pairs-put_term-requires
put_pairs-put_term-requires t c =
    let w : weight (pair_tree c.pair-item.result) ≤ weights (trees (map pair_tree c.deref-pair-items.result.now)) = rw c.pair-item.is (weight-at pair_tree _ _ _ c.loop-pair-test.true) in
    (omega (arith, w, ap (λ xs. weights (trees (map pair_tree xs))) c.deref-pair-items.ensures.value), tt)

pub put_pairs-put_term-requires-in-loop-pair : goal.put_pairs-put_term-requires-in-loop-pair
put_pairs-put_term-requires-in-loop-pair t c =
    let w : weight (pair_tree c.pair-item.result) ≤ weights (trees (map pair_tree c.deref-pair-items.result.now)) = rw c.pair-item.is (weight-at pair_tree _ _ _ c.loop-pair-test.true) in
    (omega (arith, w, ap (λ xs. weights (trees (map pair_tree xs))) c.deref-pair-items.ensures.value), tt)

pub put_pat_pairs-put_pat-requires : goal.put_pat_pairs-put_pat-requires
put_pat_pairs-put_pat-requires t c =
    let w : weight (pair_tree c.pair-item.result) ≤ weights (trees (map pair_tree c.deref-pair-items.result.now)) = rw c.pair-item.is (weight-at pair_tree _ _ _ c.loop-pair-test.true) in
    (omega (arith, w, ap (λ xs. weights (trees (map pair_tree xs))) c.deref-pair-items.ensures.value), tt)

pub put_pat_pairs-put_pat-requires-in-loop-pair : goal.put_pat_pairs-put_pat-requires-in-loop-pair
put_pat_pairs-put_pat-requires-in-loop-pair t c =
    let w : weight (pair_tree c.pair-item.result) ≤ weights (trees (map pair_tree c.deref-pair-items.result.now)) = rw c.pair-item.is (weight-at pair_tree _ _ _ c.loop-pair-test.true) in
    (omega (arith, w, ap (λ xs. weights (trees (map pair_tree xs))) c.deref-pair-items.ensures.value), tt)

pub put_binds-put_term-requires : goal.put_binds-put_term-requires
put_binds-put_term-requires t c =
    let w : weight (bind_tree c.bind-item.result) ≤ weights (trees (map bind_tree c.deref-bind-items.result.now)) = rw c.bind-item.is (weight-at bind_tree _ _ _ c.loop-bind-test.true) in
    (omega (arith, w, ap (λ xs. weights (trees (map bind_tree xs))) c.deref-bind-items.ensures.value), tt)

pub put_binds-put_pats-requires : goal.put_binds-put_pats-requires
put_binds-put_pats-requires t c =
    let w : weight (bind_tree c.bind-item.result) ≤ weights (trees (map bind_tree c.deref-bind-items.result.now)) = rw c.bind-item.is (weight-at bind_tree _ _ _ c.loop-bind-test.true) in
    (omega (arith, w, ap (λ xs. weights (trees (map bind_tree xs))) c.deref-bind-items.ensures.value), tt)

pub put_cases-put_pat-requires : goal.put_cases-put_pat-requires
put_cases-put_pat-requires t c =
    let w : weight (case_tree c.case-item.result) ≤ weights (trees (map case_tree c.deref-case-items.result.now)) = rw c.case-item.is (weight-at case_tree _ _ _ c.loop-case-test.true) in
    (omega (arith, w, ap (λ xs. weights (trees (map case_tree xs))) c.deref-case-items.ensures.value), tt)

pub put_cases-put_term-requires : goal.put_cases-put_term-requires
put_cases-put_term-requires t c =
    let w : weight (case_tree c.case-item.result) ≤ weights (trees (map case_tree c.deref-case-items.result.now)) = rw c.case-item.is (weight-at case_tree _ _ _ c.loop-case-test.true) in
    (omega (arith, w, ap (λ xs. weights (trees (map case_tree xs))) c.deref-case-items.ensures.value), tt)

pub put_term-loop-part-preserved : goal.put_term-loop-part-preserved
put_term-loop-part-preserved t c = wrote_next part_tree _ _ _ _ refl c.loop-part-test.true c.part-item.is c.loop-part.invariant c.put_part.ensures

pub put_pat-loop-part-preserved : goal.put_pat-loop-part-preserved
put_pat-loop-part-preserved t c = wrote_next pat_part_tree _ _ _ _ refl c.loop-part-test.true c.part-item.is c.loop-part.invariant c.put_pat_part.ensures

pub put_term-returns : goal.put_term-returns
put_term-returns t c =
    let ps = c.parts-parts.result.now in
    let up = subst IsNormal c.parts-parts.ensures.parts c.parts-parts.ensures.normal in
    let n = wrote_row part_tree ps ps _ _ refl c.loop-part-test.false (search rules) c.be32.ensures c.loop-part.invariant in
    wrote n (row-bag (map part_tree ps) up.0 ∙ ap code (sym c.parts-parts.ensures.parts))

pub put_pat-returns : goal.put_pat-returns
put_pat-returns t c =
    let ps = c.parts-parts.result.now in
    let n = wrote_row pat_part_tree ps ps _ _ refl c.loop-part-test.false (search rules) c.be32.ensures c.loop-part.invariant in
    wrote n (ap code (sym c.parts-parts.ensures.parts))

pub put_terms-loop-term-preserved : goal.put_terms-loop-term-preserved
put_terms-loop-term-preserved t c = wrote_next (λ t. t) _ _ _ _ c.deref-term-items.ensures.value c.loop-term-test.true c.term-item.is c.loop-term.invariant c.put_term.ensures

pub put_terms-returns : goal.put_terms-returns
put_terms-returns t c = wrote (wrote_row (λ t. t) c.args.terms.now.items _ _ _ c.deref-term-items.ensures.value c.loop-term-test.false (search rules) c.be32.ensures c.loop-term.invariant) (same_row c.args.terms.now.items)

pub put_pats-loop-pat-preserved : goal.put_pats-loop-pat-preserved
put_pats-loop-pat-preserved t c = wrote_next (λ t. t) _ _ _ _ c.deref-pat-items.ensures.value c.loop-pat-test.true c.pat-item.is c.loop-pat.invariant c.put_pat.ensures

pub put_pats-returns : goal.put_pats-returns
put_pats-returns t c = wrote (wrote_row (λ t. t) c.args.pats.now.items _ _ _ c.deref-pat-items.ensures.value c.loop-pat-test.false (search rules) c.be32.ensures c.loop-pat.invariant) (same_row c.args.pats.now.items)

pub put_pairs-loop-pair-preserved : goal.put_pairs-loop-pair-preserved
put_pairs-loop-pair-preserved t c = wrote_next pair_tree _ _ _ _ c.deref-pair-items.ensures.value c.loop-pair-test.true c.pair-item.is c.loop-pair.invariant (wrote_one c.put_term.ensures c.put_term-in-loop-pair.ensures)

pub put_pairs-returns : goal.put_pairs-returns
put_pairs-returns t c = wrote_row pair_tree c.args.pairs.now.items _ _ _ c.deref-pair-items.ensures.value c.loop-pair-test.false (search rules) c.be32.ensures c.loop-pair.invariant

pub put_pat_pairs-loop-pair-preserved : goal.put_pat_pairs-loop-pair-preserved
put_pat_pairs-loop-pair-preserved t c = wrote_next pair_tree _ _ _ _ c.deref-pair-items.ensures.value c.loop-pair-test.true c.pair-item.is c.loop-pair.invariant (wrote_one c.put_pat.ensures c.put_pat-in-loop-pair.ensures)

pub put_pat_pairs-returns : goal.put_pat_pairs-returns
put_pat_pairs-returns t c = wrote_row pair_tree c.args.pairs.now.items _ _ _ c.deref-pair-items.ensures.value c.loop-pair-test.false (search rules) c.be32.ensures c.loop-pair.invariant

pub put_binds-loop-bind-preserved : goal.put_binds-loop-bind-preserved
put_binds-loop-bind-preserved t c = wrote_next bind_tree _ _ _ _ c.deref-bind-items.ensures.value c.loop-bind-test.true c.bind-item.is c.loop-bind.invariant (wrote_two c.put_term.ensures c.put_pats.ensures c.rest.ensures)

pub put_binds-returns : goal.put_binds-returns
put_binds-returns t c = wrote_row bind_tree c.args.binds.now.items _ _ _ c.deref-bind-items.ensures.value c.loop-bind-test.false (search rules) c.be32.ensures c.loop-bind.invariant

pub put_cases-loop-case-preserved : goal.put_cases-loop-case-preserved
put_cases-loop-case-preserved t c = wrote_next case_tree _ _ _ _ c.deref-case-items.ensures.value c.loop-case-test.true c.case-item.is c.loop-case.invariant (wrote_one c.put_pat.ensures c.put_term.ensures)

pub put_cases-returns : goal.put_cases-returns
put_cases-returns t c = wrote_row case_tree c.args.cases.now.items _ _ _ c.deref-case-items.ensures.value c.loop-case-test.false (search rules) c.be32.ensures c.loop-case.invariant

pub put_part-returns-in-Ground : goal.put_part-returns-in-Ground
put_part-returns-in-Ground t c = wrote c.ground.ensures (ap coded (sym c.in-Ground.is))

pub put_part-returns-in-Fresh : goal.put_part-returns-in-Fresh
put_part-returns-in-Fresh t c = wrote (wrote_one c.byte.ensures c.slice.ensures) (ap coded (sym c.in-Fresh.is))

pub put_part-returns-in-Var : goal.put_part-returns-in-Var
put_part-returns-in-Var t c = wrote (wrote_leaf c.number.ensures) (ap coded (sym c.in-Var.is))

pub put_part-returns-in-NameVar : goal.put_part-returns-in-NameVar
put_part-returns-in-NameVar t c = wrote (wrote_leaf c.number-in-NameVar.ensures) (ap coded (sym c.in-NameVar.is))

pub put_part-returns-in-List : goal.put_part-returns-in-List
put_part-returns-in-List t c = wrote (wrote_both c.byte-in-List.ensures c.put_terms.ensures) (ap coded (sym c.in-List.is))

pub put_part-returns-in-Tuple : goal.put_part-returns-in-Tuple
put_part-returns-in-Tuple t c = wrote (wrote_both c.byte-in-Tuple.ensures c.put_terms-in-Tuple.ensures) (ap coded (sym c.in-Tuple.is))

pub put_part-returns-in-Set : goal.put_part-returns-in-Set
put_part-returns-in-Set t c = wrote (wrote_both c.byte-in-Set.ensures c.put_terms-in-Set.ensures) (ap (λ z. 0x22 ∷ z) (row-bag _ (subst (λ p. IsOrdered (part_tree p)) c.in-Set.is c.requires)) ∙ ap coded (sym c.in-Set.is))

pub put_part-returns-in-Map : goal.put_part-returns-in-Map
put_part-returns-in-Map t c = wrote (wrote_both c.byte-in-Map.ensures c.put_pairs.ensures) (ap (λ z. 0x23 ∷ z) (row-bag _ (subst (λ p. IsOrdered (part_tree p)) c.in-Map.is c.requires)) ∙ ap coded (sym c.in-Map.is))

pub put_part-returns-in-Send : goal.put_part-returns-in-Send
put_part-returns-in-Send t c = wrote (wrote_two c.flag.ensures c.put_term.ensures c.put_terms-in-Send.ensures) (ap coded (sym c.in-Send.is))

pub put_part-returns-in-Receive : goal.put_part-returns-in-Receive
put_part-returns-in-Receive t c = wrote (wrote_two c.kind.ensures c.put_binds.ensures c.put_term-in-Receive.ensures) (ap coded (sym c.in-Receive.is))

pub put_part-returns-in-New : goal.put_part-returns-in-New
put_part-returns-in-New t c = wrote (wrote_one c.origins.ensures c.put_term-in-New.ensures) (ap coded (sym c.in-New.is))

pub put_part-returns-in-Match : goal.put_part-returns-in-Match
put_part-returns-in-Match t c = wrote (wrote_two c.byte-in-Match.ensures c.put_term-in-Match.ensures c.put_cases.ensures) (ap coded (sym c.in-Match.is))

pub put_part-returns-in-Bundle : goal.put_part-returns-in-Bundle
put_part-returns-in-Bundle t c = wrote (wrote_one c.rights.ensures c.put_term-in-Bundle.ensures) (ap coded (sym c.in-Bundle.is))

pub put_part-returns-in-Unary : goal.put_part-returns-in-Unary
put_part-returns-in-Unary t c = wrote (wrote_one c.unary_op.ensures c.put_term-in-Unary.ensures) (ap coded (sym c.in-Unary.is))

pub put_part-returns-in-Binary : goal.put_part-returns-in-Binary
put_part-returns-in-Binary t c = wrote (wrote_two c.binary_op.ensures c.put_term-in-Binary.ensures c.put_term-in-Binary-2.ensures) (ap coded (sym c.in-Binary.is))

pub put_part-returns-in-Method : goal.put_part-returns-in-Method
put_part-returns-in-Method t c = wrote (wrote_two c.text.ensures c.put_term-in-Method.ensures c.put_terms-in-Method.ensures) (ap (λ w. 0x42 ∷ (text w ++ (code c.in-Method.target ++ (code (many row c.in-Method.args.items) ++ [])))) c.as_str.ensures.value ∙ ap coded (sym c.in-Method.is))

pub put_pat_part-returns-in-Wild : goal.put_pat_part-returns-in-Wild
put_pat_part-returns-in-Wild t c = wrote c.byte.ensures (ap pat_coded (sym c.in-Wild.is))

pub put_pat_part-returns-in-Var : goal.put_pat_part-returns-in-Var
put_pat_part-returns-in-Var t c = wrote c.byte-in-Var.ensures (ap pat_coded (sym c.in-Var.is))

pub put_pat_part-returns-in-NameVar : goal.put_pat_part-returns-in-NameVar
put_pat_part-returns-in-NameVar t c = wrote c.byte-in-NameVar.ensures (ap pat_coded (sym c.in-NameVar.is))

pub put_pat_part-returns-in-Simple : goal.put_pat_part-returns-in-Simple
put_pat_part-returns-in-Simple t c = wrote c.simple.ensures (ap pat_coded (sym c.in-Simple.is))

pub put_pat_part-returns-in-Same : goal.put_pat_part-returns-in-Same
put_pat_part-returns-in-Same t c = wrote (wrote_one c.byte-in-Same.ensures c.put_term.ensures) (ap pat_coded (sym c.in-Same.is))

pub put_pat_part-returns-in-Ground : goal.put_pat_part-returns-in-Ground
put_pat_part-returns-in-Ground t c = wrote c.ground.ensures (ap pat_coded (sym c.in-Ground.is))

pub put_pat_part-returns-in-Both : goal.put_pat_part-returns-in-Both
put_pat_part-returns-in-Both t c = wrote (wrote_two c.byte-in-Both.ensures c.put_pat.ensures c.put_pat-in-Both.ensures) (ap pat_coded (sym c.in-Both.is))

pub put_pat_part-returns-in-Either : goal.put_pat_part-returns-in-Either
put_pat_part-returns-in-Either t c = wrote (wrote_two c.byte-in-Either.ensures c.put_pat-in-Either.ensures c.put_pat-in-Either-2.ensures) (ap pat_coded (sym c.in-Either.is))

pub put_pat_part-returns-in-Not : goal.put_pat_part-returns-in-Not
put_pat_part-returns-in-Not t c = wrote (wrote_one c.byte-in-Not.ensures c.put_pat-in-Not.ensures) (ap pat_coded (sym c.in-Not.is))

pub put_pat_part-returns-in-List : goal.put_pat_part-returns-in-List
put_pat_part-returns-in-List t c = wrote (wrote_two c.byte-in-List.ensures c.put_pats.ensures c.rest.ensures) (ap pat_coded (sym c.in-List.is))

pub put_pat_part-returns-in-Tuple : goal.put_pat_part-returns-in-Tuple
put_pat_part-returns-in-Tuple t c = wrote (wrote_both c.byte-in-Tuple.ensures c.put_pats-in-Tuple.ensures) (ap pat_coded (sym c.in-Tuple.is))

pub put_pat_part-returns-in-Set : goal.put_pat_part-returns-in-Set
put_pat_part-returns-in-Set t c = wrote (wrote_two c.byte-in-Set.ensures c.put_pats-in-Set.ensures c.rest-in-Set.ensures) (ap pat_coded (sym c.in-Set.is))

pub put_pat_part-returns-in-Map : goal.put_pat_part-returns-in-Map
put_pat_part-returns-in-Map t c = wrote (wrote_two c.byte-in-Map.ensures c.put_pat_pairs.ensures c.rest-in-Map.ensures) (ap pat_coded (sym c.in-Map.is))

pub put_pat_part-returns-in-Send : goal.put_pat_part-returns-in-Send
put_pat_part-returns-in-Send t c = wrote (wrote_two c.flag.ensures c.put_pat-in-Send.ensures c.put_pats-in-Send.ensures) (ap pat_coded (sym c.in-Send.is))

pub put_pat_part-returns-in-Bundle : goal.put_pat_part-returns-in-Bundle
put_pat_part-returns-in-Bundle t c = wrote (wrote_one c.rights.ensures c.put_pat-in-Bundle.ensures) (ap pat_coded (sym c.in-Bundle.is))

pub put_pat_part-returns-in-Closed : goal.put_pat_part-returns-in-Closed
put_pat_part-returns-in-Closed t c = wrote c.put_part.ensures (ap pat_coded (sym c.in-Closed.is))
