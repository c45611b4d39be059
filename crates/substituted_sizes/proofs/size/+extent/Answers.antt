use Rattle.std.proofs.Common.{◌≡◌, ◌≤◌, ◌+◌, arith, rules, ap, map, refl, length, ◌∙◌}
use Rattle.std.specs.Prelude.{string_bytes}
use Rattle.std.proofs.lemmas.Grind.{common_steps}
use Rattle.std.proofs.lemmas.List.{length-map}
use Rattle.calculus.specs.Tree.{weight, weights, trees, fresh, var, name_var, list, tuple, set, dict, pair, send, receive, bind, new, match, case, bundle, unary, binary, method, pattern, rest, any, some_process, some_name, simple, same, both, either, not_this, list_pattern, set_pattern, map_pattern, par}
use Rattle.rho_term.specs.Parts.{part_tree, pat_part_tree, pair_tree, bind_tree, case_tree}
use Rattle.rho_term.proofs.Trees.{weight-at, tree-at}
use Rattle.rho_term.specs.Sizes.{in_u64}
use Rattle.term_bounds.specs.Filled.{IsForm}
use Rattle.substituted_sizes.specs.Extent.{IsHeight, IsLength, AreHeights}
use Rattle.term_bounds.proofs.Filling.{part-form, pat_part-form}
use Rattle.substituted_sizes.proofs.Extending.{many-length, many-height, row-length, row-height, one-length, one-height, two-length, two-height, three-length, three-height, leaf-length, leaf-height, ground-length, ground-height, bound-length, bound-height, under-length, under-high, whole-length, whole-height, use-length, use-height}
use Rattle.substituted_sizes.proofs.size.+extent.Goals as goal

pub term_extent-add_part-total-requires : goal.term_extent-add_part-total-requires
term_extent-add_part-total-requires t c =
    let w : weight (part_tree c.part-item.result) ≤ weights (trees (map part_tree c.parts-parts.result.now)) = rw c.part-item.is (weight-at part_tree _ _ _ c.loop-part-test.true) in
    (omega (arith, w, ap weight c.parts-parts.ensures.parts), c.loop-part.invariant.least)

pub pat_extent-add_pat_part-total-requires : goal.pat_extent-add_pat_part-total-requires
pat_extent-add_pat_part-total-requires t c =
    let w : weight (pat_part_tree c.part-item.result) ≤ weights (trees (map pat_part_tree c.parts-parts.result.now)) = rw c.part-item.is (weight-at pat_part_tree _ _ _ c.loop-part-test.true) in
    (omega (arith, w, ap weight c.parts-parts.ensures.parts), c.loop-part.invariant.least)

pub terms_extent-term_extent-requires : goal.terms_extent-term_extent-requires
terms_extent-term_extent-requires t c =
    let w : weight c.term-item.result ≤ weights (trees c.deref-term-items.result.now) = rw c.term-item.is (tree-at _ _ _ c.loop-term-test.true) in
    (omega (arith, w, ap (λ xs. weights (trees xs)) c.deref-term-items.ensures.value), tt)

pub pats_extent-pat_extent-requires : goal.pats_extent-pat_extent-requires
pats_extent-pat_extent-requires t c =
    let w : weight c.pat-item.result ≤ weights (trees c.deref-pat-items.result.now) = rw c.pat-item.is (tree-at _ _ _ c.loop-pat-test.true) in
    (omega (arith, w, ap (λ xs. weights (trees xs)) c.deref-pat-items.ensures.value), tt)

pub pairs_extent-term_extent-key-requires : goal.pairs_extent-term_extent-key-requires
pairs_extent-term_extent-key-requires t c =
    let w : weight (pair_tree c.pair-item.result) ≤ weights (trees (map pair_tree c.deref-pair-items.result.now)) = rw c.pair-item.is (weight-at pair_tree _ _ _ c.loop-pair-test.true) in
    (omega (arith, w, ap (λ xs. weights (trees (map pair_tree xs))) c.deref-pair-items.ensures.value), tt)

pub pairs_extent-term_extent-value-requires : goal.pairs_extent-term_extent-value-requires
pairs_extent-term_extent-value-requires t c =
    let w : weight (pair_tree c.pair-item.result) ≤ weights (trees (map pair_tree c.deref-pair-items.result.now)) = rw c.pair-item.is (weight-at pair_tree _ _ _ c.loop-pair-test.true) in
    (omega (arith, w, ap (λ xs. weights (trees (map pair_tree xs))) c.deref-pair-items.ensures.value), tt)

pub pat_pairs_extent-pat_extent-key-requires : goal.pat_pairs_extent-pat_extent-key-requires
pat_pairs_extent-pat_extent-key-requires t c =
    let w : weight (pair_tree c.pair-item.result) ≤ weights (trees (map pair_tree c.deref-pair-items.result.now)) = rw c.pair-item.is (weight-at pair_tree _ _ _ c.loop-pair-test.true) in
    (omega (arith, w, ap (λ xs. weights (trees (map pair_tree xs))) c.deref-pair-items.ensures.value), tt)

pub pat_pairs_extent-pat_extent-value-requires : goal.pat_pairs_extent-pat_extent-value-requires
pat_pairs_extent-pat_extent-value-requires t c =
    let w : weight (pair_tree c.pair-item.result) ≤ weights (trees (map pair_tree c.deref-pair-items.result.now)) = rw c.pair-item.is (weight-at pair_tree _ _ _ c.loop-pair-test.true) in
    (omega (arith, w, ap (λ xs. weights (trees (map pair_tree xs))) c.deref-pair-items.ensures.value), tt)

pub binds_extent-term_extent-channel-requires : goal.binds_extent-term_extent-channel-requires
binds_extent-term_extent-channel-requires t c =
    let w : weight (bind_tree c.bind-item.result) ≤ weights (trees (map bind_tree c.deref-bind-items.result.now)) = rw c.bind-item.is (weight-at bind_tree _ _ _ c.loop-bind-test.true) in
    (omega (arith, w, ap (λ xs. weights (trees (map bind_tree xs))) c.deref-bind-items.ensures.value), tt)

pub binds_extent-pats_extent-requires : goal.binds_extent-pats_extent-requires
binds_extent-pats_extent-requires t c =
    let w : weight (bind_tree c.bind-item.result) ≤ weights (trees (map bind_tree c.deref-bind-items.result.now)) = rw c.bind-item.is (weight-at bind_tree _ _ _ c.loop-bind-test.true) in
    (omega (arith, w, ap (λ xs. weights (trees (map bind_tree xs))) c.deref-bind-items.ensures.value), tt)

pub cases_extent-pat_extent-pat-requires : goal.cases_extent-pat_extent-pat-requires
cases_extent-pat_extent-pat-requires t c =
    let w : weight (case_tree c.case-item.result) ≤ weights (trees (map case_tree c.deref-case-items.result.now)) = rw c.case-item.is (weight-at case_tree _ _ _ c.loop-case-test.true) in
    (omega (arith, w, ap (λ xs. weights (trees (map case_tree xs))) c.deref-case-items.ensures.value), tt)

pub cases_extent-term_extent-body-requires : goal.cases_extent-term_extent-body-requires
cases_extent-term_extent-body-requires t c =
    let w : weight (case_tree c.case-item.result) ≤ weights (trees (map case_tree c.deref-case-items.result.now)) = rw c.case-item.is (weight-at case_tree _ _ _ c.loop-case-test.true) in
    (omega (arith, w, ap (λ xs. weights (trees (map case_tree xs))) c.deref-case-items.ensures.value), tt)

pub form_extent-returns-in-Ground-clause-height : goal.form_extent-returns-in-Ground-clause-height
form_extent-returns-in-Ground-clause-height t c =
    let vs = c.args.values.now in let n = c.args.depth in rw c.in-Ground.is (λ h. ground-height vs n _ _ (omega arith))

pub form_extent-returns-in-Ground-clause-length : goal.form_extent-returns-in-Ground-clause-length
form_extent-returns-in-Ground-clause-length t c =
    let vs = c.args.values.now in let n = c.args.depth in rw c.in-Ground.is (λ h. ground-length vs n _ _ (c.leaf.ensures.length ∙ c.ground_len.ensures))

pub form_extent-returns-in-Fresh-clause-height : goal.form_extent-returns-in-Fresh-clause-height
form_extent-returns-in-Fresh-clause-height t c =
    let vs = c.args.values.now in let n = c.args.depth in rw c.in-Fresh.is (λ h. leaf-height vs n (fresh _) (tt, λ ts. refl) _ (omega arith))

pub form_extent-returns-in-Fresh-clause-length : goal.form_extent-returns-in-Fresh-clause-length
form_extent-returns-in-Fresh-clause-length t c =
    let vs = c.args.values.now in let n = c.args.depth in rw c.in-Fresh.is (λ h. leaf-length vs n (fresh _) (tt, λ ts. refl) _ (omega arith))

pub form_extent-returns-in-List-clause-height : goal.form_extent-returns-in-List-clause-height
form_extent-returns-in-List-clause-height t c =
    let vs = c.args.values.now in let n = c.args.depth in rw c.in-List.is (λ h. many-height vs n list (tt, λ ts. refl) _ _ _ (omega arith) c.terms_extent.ensures.height)

pub form_extent-returns-in-List-clause-length : goal.form_extent-returns-in-List-clause-length
form_extent-returns-in-List-clause-length t c =
    let vs = c.args.values.now in let n = c.args.depth in rw c.in-List.is (λ h. many-length vs n list (tt, λ ts. refl) _ _ _ (omega arith) c.terms_extent.ensures.length)

pub form_extent-returns-in-Tuple-clause-height : goal.form_extent-returns-in-Tuple-clause-height
form_extent-returns-in-Tuple-clause-height t c =
    let vs = c.args.values.now in let n = c.args.depth in rw c.in-Tuple.is (λ h. many-height vs n tuple (tt, λ ts. refl) _ _ _ (omega arith) c.terms_extent-in-Tuple.ensures.height)

pub form_extent-returns-in-Tuple-clause-length : goal.form_extent-returns-in-Tuple-clause-length
form_extent-returns-in-Tuple-clause-length t c =
    let vs = c.args.values.now in let n = c.args.depth in rw c.in-Tuple.is (λ h. many-length vs n tuple (tt, λ ts. refl) _ _ _ (omega arith) c.terms_extent-in-Tuple.ensures.length)

pub form_extent-returns-in-Set-clause-height : goal.form_extent-returns-in-Set-clause-height
form_extent-returns-in-Set-clause-height t c =
    let vs = c.args.values.now in let n = c.args.depth in rw c.in-Set.is (λ h. many-height vs n set (tt, λ ts. refl) _ _ _ (omega arith) c.terms_extent-in-Set.ensures.height)

pub form_extent-returns-in-Set-clause-length : goal.form_extent-returns-in-Set-clause-length
form_extent-returns-in-Set-clause-length t c =
    let vs = c.args.values.now in let n = c.args.depth in rw c.in-Set.is (λ h. many-length vs n set (tt, λ ts. refl) _ _ _ (omega arith) c.terms_extent-in-Set.ensures.length)

pub form_extent-returns-in-Map-clause-height : goal.form_extent-returns-in-Map-clause-height
form_extent-returns-in-Map-clause-height t c =
    let vs = c.args.values.now in let n = c.args.depth in rw c.in-Map.is (λ h. many-height vs n dict (tt, λ ts. refl) _ _ _ (omega arith) c.pairs_extent.ensures.height)

pub form_extent-returns-in-Map-clause-length : goal.form_extent-returns-in-Map-clause-length
form_extent-returns-in-Map-clause-length t c =
    let vs = c.args.values.now in let n = c.args.depth in rw c.in-Map.is (λ h. many-length vs n dict (tt, λ ts. refl) _ _ _ (omega arith) c.pairs_extent.ensures.length)

pub form_extent-returns-in-Send-clause-height : goal.form_extent-returns-in-Send-clause-height
form_extent-returns-in-Send-clause-height t c =
    let vs = c.args.values.now in let n = c.args.depth in rw c.in-Send.is (λ h. two-height vs n (send _) (tt, λ ts. refl) _ _ _ _ _ (omega arith) c.term_extent-channel.ensures.height (row-height vs n _ _ c.terms_extent-in-Send.ensures.height))

pub form_extent-returns-in-Send-clause-length : goal.form_extent-returns-in-Send-clause-length
form_extent-returns-in-Send-clause-length t c =
    let vs = c.args.values.now in let n = c.args.depth in rw c.in-Send.is (λ h. two-length vs n (send _) (tt, λ ts. refl) _ _ _ _ _ (omega arith) c.term_extent-channel.ensures.length (row-length vs n _ _ c.terms_extent-in-Send.ensures.length))

pub form_extent-returns-in-Receive-clause-height : goal.form_extent-returns-in-Receive-clause-height
form_extent-returns-in-Receive-clause-height t c =
    let vs = c.args.values.now in let n = c.args.depth in rw c.in-Receive.is (λ h. bound-height vs n (receive _) tt (λ ts. refl) _ _ _ _ _ c.plus-bound.result c.plus-inner.result (omega arith) (omega arith) (omega arith) (row-height vs n _ _ c.binds_extent.ensures.height) c.term_extent-body.ensures.height)

pub form_extent-returns-in-Receive-clause-length : goal.form_extent-returns-in-Receive-clause-length
form_extent-returns-in-Receive-clause-length t c =
    let vs = c.args.values.now in let n = c.args.depth in rw c.in-Receive.is (λ h. bound-length vs n (receive _) tt (λ ts. refl) _ _ _ _ _ c.plus-bound.result c.plus-inner.result (omega arith) (omega arith) (omega arith) (row-length vs n _ _ c.binds_extent.ensures.length) c.term_extent-body.ensures.length)

pub form_extent-returns-in-New-clause-height : goal.form_extent-returns-in-New-clause-height
form_extent-returns-in-New-clause-height t c =
    let vs = c.args.values.now in let n = c.args.depth in rw c.in-New.is (λ h. under-high vs n (new _) tt _ _ _ (length c.in-New.names.items) c.plus-inner-in-New.result (length-map _ _) (omega arith) (omega arith) c.term_extent-body-in-New.ensures.height)

pub form_extent-returns-in-New-clause-length : goal.form_extent-returns-in-New-clause-length
form_extent-returns-in-New-clause-length t c =
    let vs = c.args.values.now in let n = c.args.depth in rw c.in-New.is (λ h. under-length vs n (new _) tt _ _ _ (length c.in-New.names.items) c.plus-inner-in-New.result (length-map _ _) (omega arith) (omega arith) c.term_extent-body-in-New.ensures.length)

pub form_extent-returns-in-Match-clause-height : goal.form_extent-returns-in-Match-clause-height
form_extent-returns-in-Match-clause-height t c =
    let vs = c.args.values.now in let n = c.args.depth in rw c.in-Match.is (λ h. two-height vs n match (tt, λ ts. refl) _ _ _ _ _ (omega arith) c.term_extent-target.ensures.height (row-height vs n _ _ c.cases_extent.ensures.height))

pub form_extent-returns-in-Match-clause-length : goal.form_extent-returns-in-Match-clause-length
form_extent-returns-in-Match-clause-length t c =
    let vs = c.args.values.now in let n = c.args.depth in rw c.in-Match.is (λ h. two-length vs n match (tt, λ ts. refl) _ _ _ _ _ (omega arith) c.term_extent-target.ensures.length (row-length vs n _ _ c.cases_extent.ensures.length))

pub form_extent-returns-in-Bundle-clause-height : goal.form_extent-returns-in-Bundle-clause-height
form_extent-returns-in-Bundle-clause-height t c =
    let vs = c.args.values.now in let n = c.args.depth in rw c.in-Bundle.is (λ h. one-height vs n (bundle _) (tt, λ ts. refl) _ _ _ (omega arith) c.term_extent.ensures.height)

pub form_extent-returns-in-Bundle-clause-length : goal.form_extent-returns-in-Bundle-clause-length
form_extent-returns-in-Bundle-clause-length t c =
    let vs = c.args.values.now in let n = c.args.depth in rw c.in-Bundle.is (λ h. one-length vs n (bundle _) (tt, λ ts. refl) _ _ _ (omega arith) c.term_extent.ensures.length)

pub form_extent-returns-in-Unary-clause-height : goal.form_extent-returns-in-Unary-clause-height
form_extent-returns-in-Unary-clause-height t c =
    let vs = c.args.values.now in let n = c.args.depth in rw c.in-Unary.is (λ h. one-height vs n (unary _) (tt, λ ts. refl) _ _ _ (omega arith) c.term_extent-in-Unary.ensures.height)

pub form_extent-returns-in-Unary-clause-length : goal.form_extent-returns-in-Unary-clause-length
form_extent-returns-in-Unary-clause-length t c =
    let vs = c.args.values.now in let n = c.args.depth in rw c.in-Unary.is (λ h. one-length vs n (unary _) (tt, λ ts. refl) _ _ _ (omega arith) c.term_extent-in-Unary.ensures.length)

pub form_extent-returns-in-Binary-clause-height : goal.form_extent-returns-in-Binary-clause-height
form_extent-returns-in-Binary-clause-height t c =
    let vs = c.args.values.now in let n = c.args.depth in rw c.in-Binary.is (λ h. two-height vs n (binary _) (tt, λ ts. refl) _ _ _ _ _ (omega arith) c.term_extent-left.ensures.height c.term_extent-in-Binary.ensures.height)

pub form_extent-returns-in-Binary-clause-length : goal.form_extent-returns-in-Binary-clause-length
form_extent-returns-in-Binary-clause-length t c =
    let vs = c.args.values.now in let n = c.args.depth in rw c.in-Binary.is (λ h. two-length vs n (binary _) (tt, λ ts. refl) _ _ _ _ _ (omega arith) c.term_extent-left.ensures.length c.term_extent-in-Binary.ensures.length)

pub form_extent-returns-in-Method-clause-height : goal.form_extent-returns-in-Method-clause-height
form_extent-returns-in-Method-clause-height t c =
    let vs = c.args.values.now in let n = c.args.depth in rw c.in-Method.is (λ h. two-height vs n (method _) (tt, λ ts. refl) _ _ _ _ _ (omega arith) c.term_extent-target-in-Method.ensures.height (row-height vs n _ _ c.terms_extent-in-Method.ensures.height))

pub form_extent-returns-in-Method-clause-length : goal.form_extent-returns-in-Method-clause-length
form_extent-returns-in-Method-clause-length t c =
    let vs = c.args.values.now in let n = c.args.depth in rw c.in-Method.is (λ h. two-length vs n (method (string_bytes c.in-Method.name)) (tt, λ ts. refl) _ _ _ c.term_extent-target-in-Method.result.length (in_u64 (4 + c.terms_extent-in-Method.result.length)) (omega (arith, ap length c.as_str.ensures.value)) c.term_extent-target-in-Method.ensures.length (row-length vs n _ _ c.terms_extent-in-Method.ensures.length))

pub pat_form_extent-returns-in-Wild-clause-height : goal.pat_form_extent-returns-in-Wild-clause-height
pat_form_extent-returns-in-Wild-clause-height t c =
    let vs = c.args.values.now in let n = c.args.depth in rw c.in-Wild.is (λ h. leaf-height vs n any (tt, λ ts. refl) _ (omega arith))

pub pat_form_extent-returns-in-Wild-clause-length : goal.pat_form_extent-returns-in-Wild-clause-length
pat_form_extent-returns-in-Wild-clause-length t c =
    let vs = c.args.values.now in let n = c.args.depth in rw c.in-Wild.is (λ h. leaf-length vs n any (tt, λ ts. refl) _ (omega arith))

pub pat_form_extent-returns-in-Var-clause-height : goal.pat_form_extent-returns-in-Var-clause-height
pat_form_extent-returns-in-Var-clause-height t c =
    let vs = c.args.values.now in let n = c.args.depth in rw c.in-Var.is (λ h. leaf-height vs n some_process (tt, λ ts. refl) _ (omega arith))

pub pat_form_extent-returns-in-Var-clause-length : goal.pat_form_extent-returns-in-Var-clause-length
pat_form_extent-returns-in-Var-clause-length t c =
    let vs = c.args.values.now in let n = c.args.depth in rw c.in-Var.is (λ h. leaf-length vs n some_process (tt, λ ts. refl) _ (omega arith))

pub pat_form_extent-returns-in-NameVar-clause-height : goal.pat_form_extent-returns-in-NameVar-clause-height
pat_form_extent-returns-in-NameVar-clause-height t c =
    let vs = c.args.values.now in let n = c.args.depth in rw c.in-NameVar.is (λ h. leaf-height vs n some_name (tt, λ ts. refl) _ (omega arith))

pub pat_form_extent-returns-in-NameVar-clause-length : goal.pat_form_extent-returns-in-NameVar-clause-length
pat_form_extent-returns-in-NameVar-clause-length t c =
    let vs = c.args.values.now in let n = c.args.depth in rw c.in-NameVar.is (λ h. leaf-length vs n some_name (tt, λ ts. refl) _ (omega arith))

pub pat_form_extent-returns-in-Simple-clause-height : goal.pat_form_extent-returns-in-Simple-clause-height
pat_form_extent-returns-in-Simple-clause-height t c =
    let vs = c.args.values.now in let n = c.args.depth in rw c.in-Simple.is (λ h. leaf-height vs n (simple _) (tt, λ ts. refl) _ (omega arith))

pub pat_form_extent-returns-in-Simple-clause-length : goal.pat_form_extent-returns-in-Simple-clause-length
pat_form_extent-returns-in-Simple-clause-length t c =
    let vs = c.args.values.now in let n = c.args.depth in rw c.in-Simple.is (λ h. leaf-length vs n (simple _) (tt, λ ts. refl) _ (omega arith))

pub pat_form_extent-returns-in-Same-clause-height : goal.pat_form_extent-returns-in-Same-clause-height
pat_form_extent-returns-in-Same-clause-height t c =
    let vs = c.args.values.now in let n = c.args.depth in rw c.in-Same.is (λ h. one-height vs n same (tt, λ ts. refl) _ _ _ (omega arith) c.term_extent.ensures.height)

pub pat_form_extent-returns-in-Same-clause-length : goal.pat_form_extent-returns-in-Same-clause-length
pat_form_extent-returns-in-Same-clause-length t c =
    let vs = c.args.values.now in let n = c.args.depth in rw c.in-Same.is (λ h. one-length vs n same (tt, λ ts. refl) _ _ _ (omega arith) c.term_extent.ensures.length)

pub pat_form_extent-returns-in-Ground-clause-height : goal.pat_form_extent-returns-in-Ground-clause-height
pat_form_extent-returns-in-Ground-clause-height t c =
    let vs = c.args.values.now in let n = c.args.depth in rw c.in-Ground.is (λ h. ground-height vs n _ _ (omega arith))

pub pat_form_extent-returns-in-Ground-clause-length : goal.pat_form_extent-returns-in-Ground-clause-length
pat_form_extent-returns-in-Ground-clause-length t c =
    let vs = c.args.values.now in let n = c.args.depth in rw c.in-Ground.is (λ h. ground-length vs n _ _ (c.leaf-in-Ground.ensures.length ∙ c.ground_len.ensures))

pub pat_form_extent-returns-in-Both-clause-height : goal.pat_form_extent-returns-in-Both-clause-height
pat_form_extent-returns-in-Both-clause-height t c =
    let vs = c.args.values.now in let n = c.args.depth in rw c.in-Both.is (λ h. two-height vs n both (tt, λ ts. refl) _ _ _ _ _ (omega arith) c.pat_extent-left.ensures.height c.pat_extent.ensures.height)

pub pat_form_extent-returns-in-Both-clause-length : goal.pat_form_extent-returns-in-Both-clause-length
pat_form_extent-returns-in-Both-clause-length t c =
    let vs = c.args.values.now in let n = c.args.depth in rw c.in-Both.is (λ h. two-length vs n both (tt, λ ts. refl) _ _ _ _ _ (omega arith) c.pat_extent-left.ensures.length c.pat_extent.ensures.length)

pub pat_form_extent-returns-in-Either-clause-height : goal.pat_form_extent-returns-in-Either-clause-height
pat_form_extent-returns-in-Either-clause-height t c =
    let vs = c.args.values.now in let n = c.args.depth in rw c.in-Either.is (λ h. two-height vs n either (tt, λ ts. refl) _ _ _ _ _ (omega arith) c.pat_extent-left-in-Either.ensures.height c.pat_extent-in-Either.ensures.height)

pub pat_form_extent-returns-in-Either-clause-length : goal.pat_form_extent-returns-in-Either-clause-length
pat_form_extent-returns-in-Either-clause-length t c =
    let vs = c.args.values.now in let n = c.args.depth in rw c.in-Either.is (λ h. two-length vs n either (tt, λ ts. refl) _ _ _ _ _ (omega arith) c.pat_extent-left-in-Either.ensures.length c.pat_extent-in-Either.ensures.length)

pub pat_form_extent-returns-in-Not-clause-height : goal.pat_form_extent-returns-in-Not-clause-height
pat_form_extent-returns-in-Not-clause-height t c =
    let vs = c.args.values.now in let n = c.args.depth in rw c.in-Not.is (λ h. one-height vs n not_this (tt, λ ts. refl) _ _ _ (omega arith) c.pat_extent-in-Not.ensures.height)

pub pat_form_extent-returns-in-Not-clause-length : goal.pat_form_extent-returns-in-Not-clause-length
pat_form_extent-returns-in-Not-clause-length t c =
    let vs = c.args.values.now in let n = c.args.depth in rw c.in-Not.is (λ h. one-length vs n not_this (tt, λ ts. refl) _ _ _ (omega arith) c.pat_extent-in-Not.ensures.length)

pub pat_form_extent-returns-in-List-clause-height : goal.pat_form_extent-returns-in-List-clause-height
pat_form_extent-returns-in-List-clause-height t c =
    let vs = c.args.values.now in let n = c.args.depth in rw c.in-List.is (λ h. two-height vs n list_pattern (tt, λ ts. refl) _ _ _ _ 0 (omega arith) (row-height vs n _ _ c.pats_extent.ensures.height) (leaf-height vs n (rest _) (tt, λ ts. refl) 0 (omega arith)))

pub pat_form_extent-returns-in-List-clause-length : goal.pat_form_extent-returns-in-List-clause-length
pat_form_extent-returns-in-List-clause-length t c =
    let vs = c.args.values.now in let n = c.args.depth in rw c.in-List.is (λ h. two-length vs n list_pattern (tt, λ ts. refl) _ _ _ _ 1 (omega arith) (row-length vs n _ _ c.pats_extent.ensures.length) (leaf-length vs n (rest _) (tt, λ ts. refl) 1 (omega arith)))

pub pat_form_extent-returns-in-Set-clause-height : goal.pat_form_extent-returns-in-Set-clause-height
pat_form_extent-returns-in-Set-clause-height t c =
    let vs = c.args.values.now in let n = c.args.depth in rw c.in-Set.is (λ h. two-height vs n set_pattern (tt, λ ts. refl) _ _ _ _ 0 (omega arith) (row-height vs n _ _ c.pats_extent-in-Set.ensures.height) (leaf-height vs n (rest _) (tt, λ ts. refl) 0 (omega arith)))

pub pat_form_extent-returns-in-Set-clause-length : goal.pat_form_extent-returns-in-Set-clause-length
pat_form_extent-returns-in-Set-clause-length t c =
    let vs = c.args.values.now in let n = c.args.depth in rw c.in-Set.is (λ h. two-length vs n set_pattern (tt, λ ts. refl) _ _ _ _ 1 (omega arith) (row-length vs n _ _ c.pats_extent-in-Set.ensures.length) (leaf-length vs n (rest _) (tt, λ ts. refl) 1 (omega arith)))

pub pat_form_extent-returns-in-Map-clause-height : goal.pat_form_extent-returns-in-Map-clause-height
pat_form_extent-returns-in-Map-clause-height t c =
    let vs = c.args.values.now in let n = c.args.depth in rw c.in-Map.is (λ h. two-height vs n map_pattern (tt, λ ts. refl) _ _ _ _ 0 (omega arith) (row-height vs n _ _ c.pat_pairs_extent.ensures.height) (leaf-height vs n (rest _) (tt, λ ts. refl) 0 (omega arith)))

pub pat_form_extent-returns-in-Map-clause-length : goal.pat_form_extent-returns-in-Map-clause-length
pat_form_extent-returns-in-Map-clause-length t c =
    let vs = c.args.values.now in let n = c.args.depth in rw c.in-Map.is (λ h. two-length vs n map_pattern (tt, λ ts. refl) _ _ _ _ 1 (omega arith) (row-length vs n _ _ c.pat_pairs_extent.ensures.length) (leaf-length vs n (rest _) (tt, λ ts. refl) 1 (omega arith)))

pub pat_form_extent-returns-in-Tuple-clause-height : goal.pat_form_extent-returns-in-Tuple-clause-height
pat_form_extent-returns-in-Tuple-clause-height t c =
    let vs = c.args.values.now in let n = c.args.depth in rw c.in-Tuple.is (λ h. many-height vs n tuple (tt, λ ts. refl) _ _ _ (omega arith) c.pats_extent-in-Tuple.ensures.height)

pub pat_form_extent-returns-in-Tuple-clause-length : goal.pat_form_extent-returns-in-Tuple-clause-length
pat_form_extent-returns-in-Tuple-clause-length t c =
    let vs = c.args.values.now in let n = c.args.depth in rw c.in-Tuple.is (λ h. many-length vs n tuple (tt, λ ts. refl) _ _ _ (omega arith) c.pats_extent-in-Tuple.ensures.length)

pub pat_form_extent-returns-in-Send-clause-height : goal.pat_form_extent-returns-in-Send-clause-height
pat_form_extent-returns-in-Send-clause-height t c =
    let vs = c.args.values.now in let n = c.args.depth in rw c.in-Send.is (λ h. two-height vs n (send _) (tt, λ ts. refl) _ _ _ _ _ (omega arith) c.pat_extent-channel.ensures.height (row-height vs n _ _ c.pats_extent-in-Send.ensures.height))

pub pat_form_extent-returns-in-Send-clause-length : goal.pat_form_extent-returns-in-Send-clause-length
pat_form_extent-returns-in-Send-clause-length t c =
    let vs = c.args.values.now in let n = c.args.depth in rw c.in-Send.is (λ h. two-length vs n (send _) (tt, λ ts. refl) _ _ _ _ _ (omega arith) c.pat_extent-channel.ensures.length (row-length vs n _ _ c.pats_extent-in-Send.ensures.length))

pub pat_form_extent-returns-in-Bundle-clause-height : goal.pat_form_extent-returns-in-Bundle-clause-height
pat_form_extent-returns-in-Bundle-clause-height t c =
    let vs = c.args.values.now in let n = c.args.depth in rw c.in-Bundle.is (λ h. one-height vs n (bundle _) (tt, λ ts. refl) _ _ _ (omega arith) c.pat_extent-in-Bundle.ensures.height)

pub pat_form_extent-returns-in-Bundle-clause-length : goal.pat_form_extent-returns-in-Bundle-clause-length
pat_form_extent-returns-in-Bundle-clause-length t c =
    let vs = c.args.values.now in let n = c.args.depth in rw c.in-Bundle.is (λ h. one-length vs n (bundle _) (tt, λ ts. refl) _ _ _ (omega arith) c.pat_extent-in-Bundle.ensures.length)

pub term_extent-returns-clause-height : goal.term_extent-returns-clause-height
term_extent-returns-clause-height t c =
    let vs = c.args.values.now in let n = c.args.depth in
    let a : AreHeights vs n (map part_tree c.parts-parts.result.now) c.loop-part.total.height = λ d e. grind (arith, common_steps, c.loop-part.invariant.height d e, c.loop-part.invariant.low) in
    whole-height vs n par (tt, λ ts. refl) _ _ _ c.parts-parts.ensures.parts refl a

pub term_extent-returns-clause-length : goal.term_extent-returns-clause-length
term_extent-returns-clause-length t c =
    let vs = c.args.values.now in let n = c.args.depth in
    λ d e.
    let b = c.loop-part.invariant.length d e in
    whole-length vs n par (tt, λ ts. refl) _ _ c.loop-part.total.length c.parts-parts.ensures.parts refl d (grind (arith, common_steps, b, c.loop-part.invariant.fits))

pub pat_extent-returns-clause-height : goal.pat_extent-returns-clause-height
pat_extent-returns-clause-height t c =
    let vs = c.args.values.now in let n = c.args.depth in
    let a : AreHeights vs n (map pat_part_tree c.parts-parts.result.now) c.loop-part.total.height = λ d e. grind (arith, common_steps, c.loop-part.invariant.height d e, c.loop-part.invariant.low) in
    whole-height vs n pattern (tt, λ ts. refl) _ _ _ c.parts-parts.ensures.parts refl a

pub pat_extent-returns-clause-length : goal.pat_extent-returns-clause-length
pat_extent-returns-clause-length t c =
    let vs = c.args.values.now in let n = c.args.depth in
    λ d e.
    let b = c.loop-part.invariant.length d e in
    whole-length vs n pattern (tt, λ ts. refl) _ _ c.loop-part.total.length c.parts-parts.ensures.parts refl d (grind (arith, common_steps, b, c.loop-part.invariant.fits))

pub add_part-returns-in-Var-clause-height : goal.add_part-returns-in-Var-clause-height
add_part-returns-in-Var-clause-height t c =
    let vs = c.args.values.now in let n = c.args.depth in rw c.in-Var.is (use-height vs var n c.in-Var.index (λ F d. refl) (omega arith) refl _ _ c.add_variable.ensures.inner_height c.add_variable.ensures.outer_height)

pub add_part-returns-in-Var-clause-length : goal.add_part-returns-in-Var-clause-length
add_part-returns-in-Var-clause-length t c =
    let vs = c.args.values.now in let n = c.args.depth in rw c.in-Var.is (use-length vs var n c.in-Var.index (λ F d. refl) (omega arith) refl _ _ c.add_variable.ensures.inner_length c.add_variable.ensures.outer_length)

pub add_part-returns-in-NameVar-clause-height : goal.add_part-returns-in-NameVar-clause-height
add_part-returns-in-NameVar-clause-height t c =
    let vs = c.args.values.now in let n = c.args.depth in rw c.in-NameVar.is (use-height vs name_var n c.in-NameVar.index (λ F d. refl) (omega arith) refl _ _ c.add_variable-in-NameVar.ensures.inner_height c.add_variable-in-NameVar.ensures.outer_height)

pub add_part-returns-in-NameVar-clause-length : goal.add_part-returns-in-NameVar-clause-length
add_part-returns-in-NameVar-clause-length t c =
    let vs = c.args.values.now in let n = c.args.depth in rw c.in-NameVar.is (use-length vs name_var n c.in-NameVar.index (λ F d. refl) (omega arith) refl _ _ c.add_variable-in-NameVar.ensures.inner_length c.add_variable-in-NameVar.ensures.outer_length)

pub add_part-returns-in_default-clause-height : goal.add_part-returns-in_default-clause-height
add_part-returns-in_default-clause-height t c =
    let vs = c.args.values.now in let n = c.args.depth in
    let h : IsForm (part_tree c.args.part.now) = part-form c.args.part.now c.in_default.not-Var c.in_default.not-NameVar in
    λ d e. omega (arith, c.form_extent.ensures.height h d e)

pub add_part-returns-in_default-clause-length : goal.add_part-returns-in_default-clause-length
add_part-returns-in_default-clause-length t c =
    let vs = c.args.values.now in let n = c.args.depth in
    let h : IsForm (part_tree c.args.part.now) = part-form c.args.part.now c.in_default.not-Var c.in_default.not-NameVar in
    λ d e. omega (arith, c.form_extent.ensures.length h d e)

pub add_pat_part-returns-in_default-clause-height : goal.add_pat_part-returns-in_default-clause-height
add_pat_part-returns-in_default-clause-height t c =
    let vs = c.args.values.now in let n = c.args.depth in
    let h : IsForm (pat_part_tree c.args.part.now) = pat_part-form c.args.part.now c.in_default.not-Closed in
    λ d e. omega (arith, c.pat_form_extent.ensures.height h d e)

pub add_pat_part-returns-in_default-clause-length : goal.add_pat_part-returns-in_default-clause-length
add_pat_part-returns-in_default-clause-length t c =
    let vs = c.args.values.now in let n = c.args.depth in
    let h : IsForm (pat_part_tree c.args.part.now) = pat_part-form c.args.part.now c.in_default.not-Closed in
    λ d e. omega (arith, c.pat_form_extent.ensures.length h d e)

pub pairs_extent-loop-pair-preserved : goal.pairs_extent-loop-pair-preserved
pairs_extent-loop-pair-preserved t c =
    let vs = c.args.values.now in
    let n = c.args.depth in
    let h : IsHeight vs n (pair_tree c.pair-item.result) c.join.result.height = two-height vs n pair (tt, λ ts. refl) _ _ _ _ _ (omega arith) c.term_extent-key.ensures.height c.term_extent-value.ensures.height in
    let k : IsLength vs n (pair_tree c.pair-item.result) c.join.result.length = two-length vs n pair (tt, λ ts. refl) _ _ _ _ _ (omega arith) c.term_extent-key.ensures.length c.term_extent-value.ensures.length in
    record {
      fits = search rules;
      low = search rules;
      least = omega arith;
      height = λ d e. grind (arith, common_steps, c.loop-pair.invariant.height d e, h d e);
      length = λ d e. grind (arith, common_steps, c.loop-pair.invariant.length d e, k d e);
    }

pub pat_pairs_extent-loop-pair-preserved : goal.pat_pairs_extent-loop-pair-preserved
pat_pairs_extent-loop-pair-preserved t c =
    let vs = c.args.values.now in
    let n = c.args.depth in
    let h : IsHeight vs n (pair_tree c.pair-item.result) c.join.result.height = two-height vs n pair (tt, λ ts. refl) _ _ _ _ _ (omega arith) c.pat_extent-key.ensures.height c.pat_extent-value.ensures.height in
    let k : IsLength vs n (pair_tree c.pair-item.result) c.join.result.length = two-length vs n pair (tt, λ ts. refl) _ _ _ _ _ (omega arith) c.pat_extent-key.ensures.length c.pat_extent-value.ensures.length in
    record {
      fits = search rules;
      low = search rules;
      least = omega arith;
      height = λ d e. grind (arith, common_steps, c.loop-pair.invariant.height d e, h d e);
      length = λ d e. grind (arith, common_steps, c.loop-pair.invariant.length d e, k d e);
    }

pub binds_extent-loop-bind-preserved : goal.binds_extent-loop-bind-preserved
binds_extent-loop-bind-preserved t c =
    let vs = c.args.values.now in
    let n = c.args.depth in
    let h : IsHeight vs n (bind_tree c.bind-item.result) c.join.result.height = three-height vs n bind (tt, λ ts. refl) _ _ _ _ _ _ 0 (omega arith) c.term_extent-channel.ensures.height (row-height vs n _ _ c.pats_extent.ensures.height) (leaf-height vs n (rest _) (tt, λ ts. refl) 0 (omega arith)) in
    let k : IsLength vs n (bind_tree c.bind-item.result) c.join.result.length = three-length vs n bind (tt, λ ts. refl) _ _ _ _ _ _ 1 (omega arith) c.term_extent-channel.ensures.length (row-length vs n _ _ c.pats_extent.ensures.length) (leaf-length vs n (rest _) (tt, λ ts. refl) 1 (omega arith)) in
    record {
      fits = search rules;
      low = search rules;
      least = omega arith;
      height = λ d e. grind (arith, common_steps, c.loop-bind.invariant.height d e, h d e);
      length = λ d e. grind (arith, common_steps, c.loop-bind.invariant.length d e, k d e);
    }

pub cases_extent-loop-case-preserved : goal.cases_extent-loop-case-preserved
cases_extent-loop-case-preserved t c =
    let vs = c.args.values.now in
    let n = c.args.depth in
    let h : IsHeight vs n (case_tree c.case-item.result) c.join.result.height = bound-height vs n case tt (λ ts. refl) _ _ _ _ _ c.plus-bound.result c.plus-inner.result (omega arith) (omega arith) (omega arith) c.pat_extent-pat.ensures.height c.term_extent-body.ensures.height in
    let k : IsLength vs n (case_tree c.case-item.result) c.join.result.length = bound-length vs n case tt (λ ts. refl) _ _ _ _ _ c.plus-bound.result c.plus-inner.result (omega arith) (omega arith) (omega arith) c.pat_extent-pat.ensures.length c.term_extent-body.ensures.length in
    record {
      fits = search rules;
      low = search rules;
      least = omega arith;
      height = λ d e. grind (arith, common_steps, c.loop-case.invariant.height d e, h d e);
      length = λ d e. grind (arith, common_steps, c.loop-case.invariant.length d e, k d e);
    }

pub terms_extent-loop-term-preserved : goal.terms_extent-loop-term-preserved
terms_extent-loop-term-preserved t c =
    let vs = c.args.values.now in
    let n = c.args.depth in
    let h : IsHeight vs n c.term-item.result c.term_extent.result.height = c.term_extent.ensures.height in
    let k : IsLength vs n c.term-item.result c.term_extent.result.length = c.term_extent.ensures.length in
    record {
      fits = search rules;
      low = search rules;
      least = omega arith;
      height = λ d e. grind (arith, common_steps, c.loop-term.invariant.height d e, h d e);
      length = λ d e. grind (arith, common_steps, c.loop-term.invariant.length d e, k d e);
    }

pub pats_extent-loop-pat-preserved : goal.pats_extent-loop-pat-preserved
pats_extent-loop-pat-preserved t c =
    let vs = c.args.values.now in
    let n = c.args.depth in
    let h : IsHeight vs n c.pat-item.result c.pat_extent.result.height = c.pat_extent.ensures.height in
    let k : IsLength vs n c.pat-item.result c.pat_extent.result.length = c.pat_extent.ensures.length in
    record {
      fits = search rules;
      low = search rules;
      least = omega arith;
      height = λ d e. grind (arith, common_steps, c.loop-pat.invariant.height d e, h d e);
      length = λ d e. grind (arith, common_steps, c.loop-pat.invariant.length d e, k d e);
    }

pub terms_extent-returns-clause-height : goal.terms_extent-returns-clause-height
terms_extent-returns-clause-height t c =
    λ d e. grind (arith, common_steps, c.loop-term.invariant.height d e, c.loop-term.invariant.low)

pub terms_extent-returns-clause-length : goal.terms_extent-returns-clause-length
terms_extent-returns-clause-length t c =
    λ d e. grind (arith, common_steps, c.loop-term.invariant.length d e, c.loop-term.invariant.fits)

pub pats_extent-returns-clause-height : goal.pats_extent-returns-clause-height
pats_extent-returns-clause-height t c =
    λ d e. grind (arith, common_steps, c.loop-pat.invariant.height d e, c.loop-pat.invariant.low)

pub pats_extent-returns-clause-length : goal.pats_extent-returns-clause-length
pats_extent-returns-clause-length t c =
    λ d e. grind (arith, common_steps, c.loop-pat.invariant.length d e, c.loop-pat.invariant.fits)

pub pairs_extent-returns-clause-height : goal.pairs_extent-returns-clause-height
pairs_extent-returns-clause-height t c =
    λ d e. grind (arith, common_steps, c.loop-pair.invariant.height d e, c.loop-pair.invariant.low)

pub pairs_extent-returns-clause-length : goal.pairs_extent-returns-clause-length
pairs_extent-returns-clause-length t c =
    λ d e. grind (arith, common_steps, c.loop-pair.invariant.length d e, c.loop-pair.invariant.fits)

pub pat_pairs_extent-returns-clause-height : goal.pat_pairs_extent-returns-clause-height
pat_pairs_extent-returns-clause-height t c =
    λ d e. grind (arith, common_steps, c.loop-pair.invariant.height d e, c.loop-pair.invariant.low)

pub pat_pairs_extent-returns-clause-length : goal.pat_pairs_extent-returns-clause-length
pat_pairs_extent-returns-clause-length t c =
    λ d e. grind (arith, common_steps, c.loop-pair.invariant.length d e, c.loop-pair.invariant.fits)

pub binds_extent-returns-clause-height : goal.binds_extent-returns-clause-height
binds_extent-returns-clause-height t c =
    λ d e. grind (arith, common_steps, c.loop-bind.invariant.height d e, c.loop-bind.invariant.low)

pub binds_extent-returns-clause-length : goal.binds_extent-returns-clause-length
binds_extent-returns-clause-length t c =
    λ d e. grind (arith, common_steps, c.loop-bind.invariant.length d e, c.loop-bind.invariant.fits)

pub cases_extent-returns-clause-height : goal.cases_extent-returns-clause-height
cases_extent-returns-clause-height t c =
    λ d e. grind (arith, common_steps, c.loop-case.invariant.height d e, c.loop-case.invariant.low)

pub cases_extent-returns-clause-length : goal.cases_extent-returns-clause-length
cases_extent-returns-clause-length t c =
    λ d e. grind (arith, common_steps, c.loop-case.invariant.length d e, c.loop-case.invariant.fits)

pub term_extent-loop-part-preserved : goal.term_extent-loop-part-preserved
term_extent-loop-part-preserved t c =
    let n = c.args.depth in
    let z : in_u64 n ≡ n = omega arith in
    record {
      fits = omega (arith, c.add_part-total.ensures.length n z);
      low = omega (arith, c.add_part-total.ensures.height n z, c.loop-part.invariant.low);
      least = omega (arith, c.add_part-total.ensures.length n z, c.loop-part.invariant.least);
      height = λ d e. grind (arith, common_steps, c.loop-part.invariant.height d e, c.add_part-total.ensures.height d e);
      length = λ d e. grind (arith, common_steps, c.loop-part.invariant.length d e, c.add_part-total.ensures.length d e);
    }

pub pat_extent-loop-part-preserved : goal.pat_extent-loop-part-preserved
pat_extent-loop-part-preserved t c =
    let n = c.args.depth in
    let z : in_u64 n ≡ n = omega arith in
    record {
      fits = omega (arith, c.add_pat_part-total.ensures.length n z);
      low = omega (arith, c.add_pat_part-total.ensures.height n z, c.loop-part.invariant.low);
      least = omega (arith, c.add_pat_part-total.ensures.length n z, c.loop-part.invariant.least);
      height = λ d e. grind (arith, common_steps, c.loop-part.invariant.height d e, c.add_pat_part-total.ensures.height d e);
      length = λ d e. grind (arith, common_steps, c.loop-part.invariant.length d e, c.add_pat_part-total.ensures.length d e);
    }
