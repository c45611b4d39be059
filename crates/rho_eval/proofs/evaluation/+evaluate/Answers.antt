use Rattle.std.proofs.Common.{rules, ◌≡◌, ◌≤◌, ◌<◌, ◌-◌, ◌^◌, map, All, ℕ, ◌+◌, ◌*◌, length, get_or, List, [], ◌∷◌, ◌++◌, sym, ap, subst, refl, ◌∙◌, arith, drop}
use Rattle.std.specs.Prelude.{flat_map, string_bytes}
use Rattle.calculus.specs.Form.{IsClosed}
use Rattle.calculus.specs.Tree.{par, row, list, tuple, set, dict, bundle, unary, binary, method, Tree, trees, weight, weights}
use Rattle.calculus.specs.Outcome.{Outcome, in_order, pure, gives, after, free, within_limits}
use Rattle.calculus.specs.Shape.{only, many, one, two, held, at}
use Rattle.calculus.specs.Normal.{ascending, made_node}
use Rattle.calculus.specs.Operators.{of_set, of_map, unary_answer, binary_answer}
use Rattle.calculus.specs.Methods.{method_answer}
use Rattle.calculus.specs.Values.{value, operated}
use Rattle.price_table.specs.Outcomes.{Came, CameFlat, Stopped, EndsWith}
use Rattle.rho_eval.specs.Values.{Evaluates}
use Rattle.rho_term.specs.Normal.{IsOrdered, IsNormal}
use Rattle.rho_term.specs.Parts.{part_tree, pair_tree}
use Rattle.rho_term.proofs.Trees.{weight-at, tree-at}
use Rattle.value_ops.specs.Answers.{IsOperand}
use Rattle.price_table.proofs.Outcomes.{exit, exit-memory, Leads, leads-none, leads-next, leads-stop, leads-end, next-of, none-of, stop-form, come-form, told-form, came-after, came-one, came-two, came-pure, stopped-first, stopped-after, stopped-cons, stopped-rest}
use Rattle.rho_eval.proofs.Forms.{value-process, value-list, value-tuple, value-set, value-map, value-bundle, value-unary, value-binary, value-row, value-method, value-pair}
use Rattle.std.proofs.lemmas.List.Elements.{All-append}
use Rattle.rho_eval.proofs.Parts.{process-form, map-form, flat-more, limited-at, map-append, itself, called, pair-comes, pair-stops-first, pair-stops-second, parts-ordered, parts-closed, members-closed, keys-closed, values-closed, operand, operands, reordered-same, key-operands}
use Rattle.rho_eval.proofs.evaluation.+evaluate.Goals as goal

pub eval_terms-eval_term-requires : goal.eval_terms-eval_term-requires
eval_terms-eval_term-requires t c =
    let ts = c.args.terms.now.items in let i = c.loop-term.term-index in let x = c.term-item.result in
    let l : i < length ts = subst (λ us. i < length us) c.deref-term-items.ensures.value c.loop-term-test.true in
    let e : x ≡ get_or ts i x = subst (λ us. x ≡ get_or us i x) c.deref-term-items.ensures.value c.term-item.is in
    let w : weight x ≤ weights (trees ts) = subst (λ y. weight y ≤ weights (trees ts)) (sym e) (tree-at ts i x l) in
    (omega (arith, w), (c.requires.cap, (c.loop-term.invariant.fits, subst IsClosed (sym e) (c.requires.closed i x l))))

pub eval_terms-loop-term-preserved : goal.eval_terms-loop-term-preserved
eval_terms-loop-term-preserved t c =
    let ts = c.args.terms.now.items in let i = c.loop-term.term-index in let x = c.term-item.result in
    let l : i < length ts = subst (λ us. i < length us) c.deref-term-items.ensures.value c.loop-term-test.true in
    let e : x ≡ get_or ts i x = subst (λ us. x ≡ get_or us i x) c.deref-term-items.ensures.value c.term-item.is in
    let p = c.args.prices.now in let v = c.in_ok-done.done in
    let h = leads-next c.args.cap c.args.price c.loop-term.total v.price c.loop-term.values.items v.value (map (value p) ts) (map (value p) (drop i ts)) (map (value p) (drop (i + 1) ts)) (value p x)
    (next-of (value p) ts i x l e) c.loop-term.invariant.leads c.in_ok-done.ensures in
    record {
      fits = c.in_ok-done.ensures.fits;
      leads = subst (λ vs. Leads c.args.cap c.args.price v.price vs (map (value p) ts) (map (value p) (drop (i + 1) ts))) (sym c.in_ok-push.ensures.items) h;
    }

pub eval_terms-returns : goal.eval_terms-returns
eval_terms-returns t c =
    let p = c.args.prices.now in let ts = c.args.terms.now.items in let i = c.loop-term.term-index in
    let l : length ts ≤ i = subst (λ us. length us ≤ i) c.deref-term-items.ensures.value c.loop-term-test.false in
    leads-end c.args.cap c.args.price c.loop-term.total c.loop-term.values.items (map (value p) ts) (map (value p) (drop i ts)) (none-of (value p) ts i l) c.loop-term.invariant.fits c.loop-term.invariant.leads

pub eval_term-eval_parts-requires : goal.eval_term-eval_parts-requires
eval_term-eval_parts-requires t c =
    let ps = c.parts.result.now in
    let e = c.parts.ensures.parts in
    let k : IsClosed (many par (map part_tree ps)) = subst IsClosed e c.requires.closed in
    let n : IsNormal (many par (map part_tree ps)) = subst IsNormal e c.parts.ensures.normal in
    let w : weight c.args.term.now ≡ weights (trees (map part_tree ps)) + 1 = ap weight e in
    (omega (arith, w), (c.requires.cap, (c.requires.price, (parts-closed [] ps k.1, parts-ordered ps n.1))))

pub eval_term-returns-in_err-done : goal.eval_term-returns-in_err-done
eval_term-returns-in_err-done t c =
    let p = c.args.prices.now in let ps = c.parts.result.now in
    let e = c.parts.ensures.parts in
    let n : IsNormal (many par (map part_tree ps)) = subst IsNormal e c.parts.ensures.normal in
    exit _ _ _ _ c.from_residual.ensures.1 (stop-form c.args.cap c.args.price (value p c.args.term.now) (in_order (map (λ q. value p (part_tree q)) ps)) _ c.in_err-done.field-0.0 (ap (value p) e ∙ process-form p ps n.0) c.in_err-done.ensures.values)

pub eval_term-returns : goal.eval_term-returns
eval_term-returns t c =
    let p = c.args.prices.now in let ps = c.parts.result.now in
    let e = c.parts.ensures.parts in
    let n : IsNormal (many par (map part_tree ps)) = subst IsNormal e c.parts.ensures.normal in
    let v = c.in_ok-done.done in let f = c.in_ok-done.ensures.values in
    let u : c.in_ok-value.value ≡ made_node par (flat_map held f.whole) = c.in_ok-value.ensures ∙ (ap (made_node par) (reordered-same v.value.items c.in_ok-done.ensures.ordered) ∙ ap (made_node par) f.flat) in
    told-form (λ q. q.price) (λ q. q.value) c.args.cap c.args.price v.price f.whole (value p c.args.term.now) (in_order (map (λ q. value p (part_tree q)) ps)) (λ vs. free (within_limits (made_node par (flat_map held vs)))) c.limited.result
    (ap (value p) e ∙ process-form p ps n.0) f.came (limited-at (λ q. q.price) (λ q. q.value) c.args.cap v.price _ _ c.limited.result u c.limited.ensures)

pub eval_parts-eval_part-requires : goal.eval_parts-eval_part-requires
eval_parts-eval_part-requires t c =
    let ps = c.args.parts.now in
    let w : weight (part_tree c.part-item.result) ≤ weights (trees (map part_tree ps)) = rw c.part-item.is (weight-at part_tree _ _ _ c.loop-part-test.true) in
    (omega (arith, w), (c.requires.cap, (c.loop-part.invariant.fits, (rw c.part-item.is (c.requires.closed c.loop-part.part-index _ c.loop-part-test.true), rw c.part-item.is (c.requires.ordered c.loop-part.part-index _ c.loop-part-test.true)))))

pub eval_parts-loop-part-preserved : goal.eval_parts-loop-part-preserved
eval_parts-loop-part-preserved t c =
    let p = c.args.prices.now in let ps = c.args.parts.now in let i = c.loop-part.part-index in let v = c.in_ok-done.done in
    let n = c.loop-part.invariant in
    let ms = c.into_parts-more.result.items in
    let e = c.into_parts-more.ensures.parts in
    let k : IsNormal (many par (map part_tree ms)) = subst IsNormal e c.into_parts-more.ensures.normal in
    record {
      fits = c.in_ok-done.ensures.fits;
      whole = n.whole ++ v.value ∷ [];
      flat = ap (map part_tree) c.in_ok-append.ensures.items ∙ flat-more n.whole v.value c.loop-part.values.items ms n.flat e;
      leads = leads-next c.args.cap c.args.price c.loop-part.total v.price n.whole v.value (map (λ q. value p (part_tree q)) ps) (map (λ q. value p (part_tree q)) (drop i ps)) (map (λ q. value p (part_tree q)) (drop (i + 1) ps)) (value p (part_tree c.part-item.result))
          (next-of (λ q. value p (part_tree q)) ps i c.part-item.result c.loop-part-test.true c.part-item.is) n.leads c.in_ok-done.ensures;
      ordered = subst (All (λ q. IsOrdered (part_tree q))) (sym c.in_ok-append.ensures.items) (All-append (λ q. IsOrdered (part_tree q)) c.loop-part.values.items ms n.ordered (parts-ordered ms k.1));
    }

pub eval_parts-returns-clause-values : goal.eval_parts-returns-clause-values
eval_parts-returns-clause-values t c =
    let p = c.args.prices.now in let ps = c.args.parts.now in let i = c.loop-part.part-index in let n = c.loop-part.invariant in
    record {
      whole = n.whole;
      came = leads-end c.args.cap c.args.price c.loop-part.total n.whole (map (λ q. value p (part_tree q)) ps) (map (λ q. value p (part_tree q)) (drop i ps)) (none-of (λ q. value p (part_tree q)) ps i (omega (arith, c.loop-part-test.false))) n.fits n.leads;
      flat = n.flat;
    }

pub eval_part-eval_terms-requires : goal.eval_part-eval_terms-requires
eval_part-eval_terms-requires t c =
    let ts = c.in-List.members.items in
    let k : IsClosed (only (many list ts)) = subst (λ q. IsClosed (only (part_tree q))) c.in-List.is c.requires.closed in
    let w : weight (part_tree c.args.part.now) ≡ weights (trees ts) + 1 = ap (λ q. weight (part_tree q)) c.in-List.is in
    (omega (arith, w), (c.requires.cap, (c.requires.price, members-closed [] ts k.1.0.1)))

pub eval_part-returns-in_err-done-in-List : goal.eval_part-returns-in_err-done-in-List
eval_part-returns-in_err-done-in-List t c =
    let p = c.args.prices.now in let ts = c.in-List.members.items in
    exit _ _ _ _ c.from_residual.ensures.1 (stop-form c.args.cap c.args.price (value p (part_tree c.args.part.now)) (in_order (map (value p) ts)) _ c.in_err-done-in-List.field-0.0 (ap (λ q. value p (part_tree q)) c.in-List.is ∙ value-list p ts) c.in_err-done-in-List.ensures)

pub eval_part-returns-in_ok-value-in-List : goal.eval_part-returns-in_ok-value-in-List
eval_part-returns-in_ok-value-in-List t c =
    let p = c.args.prices.now in let ts = c.in-List.members.items in let v = c.in_ok-done-in-List.done in
    told-form (λ q. q.price) (λ q. q.value) c.args.cap c.args.price v.price v.value.items (value p (part_tree c.args.part.now)) (in_order (map (value p) ts)) (λ vs. free (within_limits (only (many list vs)))) c.limited.result
    (ap (λ q. value p (part_tree q)) c.in-List.is ∙ value-list p ts) c.in_ok-done-in-List.ensures (limited-at (λ q. q.price) (λ q. q.value) c.args.cap v.price _ _ c.limited.result c.in_ok-value-in-List.ensures c.limited.ensures)

pub eval_part-eval_terms-requires-in-Tuple : goal.eval_part-eval_terms-requires-in-Tuple
eval_part-eval_terms-requires-in-Tuple t c =
    let ts = c.in-Tuple.members.items in
    let k : IsClosed (only (many tuple ts)) = subst (λ q. IsClosed (only (part_tree q))) c.in-Tuple.is c.requires.closed in
    let w : weight (part_tree c.args.part.now) ≡ weights (trees ts) + 1 = ap (λ q. weight (part_tree q)) c.in-Tuple.is in
    (omega (arith, w), (c.requires.cap, (c.requires.price, members-closed [] ts k.1.0.1)))

pub eval_part-returns-in_err-done-in-Tuple : goal.eval_part-returns-in_err-done-in-Tuple
eval_part-returns-in_err-done-in-Tuple t c =
    let p = c.args.prices.now in let ts = c.in-Tuple.members.items in
    exit _ _ _ _ c.from_residual-in_err-done-in-Tuple.ensures.1 (stop-form c.args.cap c.args.price (value p (part_tree c.args.part.now)) (in_order (map (value p) ts)) _ c.in_err-done-in-Tuple.field-0.0 (ap (λ q. value p (part_tree q)) c.in-Tuple.is ∙ value-tuple p ts) c.in_err-done-in-Tuple.ensures)

pub eval_part-returns-in_ok-value-in-Tuple : goal.eval_part-returns-in_ok-value-in-Tuple
eval_part-returns-in_ok-value-in-Tuple t c =
    let p = c.args.prices.now in let ts = c.in-Tuple.members.items in let v = c.in_ok-done-in-Tuple.done in
    told-form (λ q. q.price) (λ q. q.value) c.args.cap c.args.price v.price v.value.items (value p (part_tree c.args.part.now)) (in_order (map (value p) ts)) (λ vs. free (within_limits (only (many tuple vs)))) c.limited-in-Tuple.result
    (ap (λ q. value p (part_tree q)) c.in-Tuple.is ∙ value-tuple p ts) c.in_ok-done-in-Tuple.ensures (limited-at (λ q. q.price) (λ q. q.value) c.args.cap v.price _ _ c.limited-in-Tuple.result c.in_ok-value-in-Tuple.ensures c.limited-in-Tuple.ensures)

pub eval_part-eval_terms-requires-in-Set : goal.eval_part-eval_terms-requires-in-Set
eval_part-eval_terms-requires-in-Set t c =
    let ts = c.in-Set.members.items in
    let k : IsClosed (only (many set ts)) = subst (λ q. IsClosed (only (part_tree q))) c.in-Set.is c.requires.closed in
    let w : weight (part_tree c.args.part.now) ≡ weights (trees ts) + 1 = ap (λ q. weight (part_tree q)) c.in-Set.is in
    (omega (arith, w), (c.requires.cap, (c.requires.price, members-closed [] ts k.1.0.1)))

pub eval_part-returns-in_err-done-in-Set : goal.eval_part-returns-in_err-done-in-Set
eval_part-returns-in_err-done-in-Set t c =
    let p = c.args.prices.now in let ts = c.in-Set.members.items in
    let o : IsOrdered (many set ts) = subst (λ q. IsOrdered (part_tree q)) c.in-Set.is c.requires.ordered in
    exit _ _ _ _ c.from_residual-in_err-done-in-Set.ensures.1 (stop-form c.args.cap c.args.price (value p (part_tree c.args.part.now)) (in_order (map (value p) ts)) _ c.in_err-done-in-Set.field-0.0 (ap (λ q. value p (part_tree q)) c.in-Set.is ∙ value-set p ts o) c.in_err-done-in-Set.ensures)

pub eval_part-set_of-requires : goal.eval_part-set_of-requires
eval_part-set_of-requires t c =
    let p = c.args.prices.now in let ts = c.in-Set.members.items in let v = c.in_ok-done-in-Set.done in
    let k : IsClosed (only (many set ts)) = subst (λ q. IsClosed (only (part_tree q))) c.in-Set.is c.requires.closed in
    operands p c.args.cap c.args.price v.price ts v.value.items (members-closed [] ts k.1.0.1) c.in_ok-done-in-Set.ensures

pub eval_part-returns-in_ok-value-in-Set : goal.eval_part-returns-in_ok-value-in-Set
eval_part-returns-in_ok-value-in-Set t c =
    let p = c.args.prices.now in let ts = c.in-Set.members.items in let v = c.in_ok-done-in-Set.done in
    let o : IsOrdered (many set ts) = subst (λ q. IsOrdered (part_tree q)) c.in-Set.is c.requires.ordered in
    told-form (λ q. q.price) (λ q. q.value) c.args.cap c.args.price v.price v.value.items (value p (part_tree c.args.part.now)) (in_order (map (value p) ts)) (λ vs. free (within_limits (of_set vs))) c.limited-in-Set.result
    (ap (λ q. value p (part_tree q)) c.in-Set.is ∙ value-set p ts o) c.in_ok-done-in-Set.ensures (limited-at (λ q. q.price) (λ q. q.value) c.args.cap v.price _ _ c.limited-in-Set.result c.in_ok-value-in-Set.ensures c.limited-in-Set.ensures)

pub eval_part-eval_pairs-requires : goal.eval_part-eval_pairs-requires
eval_part-eval_pairs-requires t c =
    let ps = c.in-Map.pairs.items in
    let k : IsClosed (only (many dict (map pair_tree ps))) = subst (λ q. IsClosed (only (part_tree q))) c.in-Map.is c.requires.closed in
    let w : weight (part_tree c.args.part.now) ≡ weights (trees (map pair_tree ps)) + 1 = ap (λ q. weight (part_tree q)) c.in-Map.is in
    (omega (arith, w), (c.requires.cap, (c.requires.price, (keys-closed [] ps k.1.0.1, values-closed [] ps k.1.0.1))))

pub eval_part-returns-in_err-done-in-Map : goal.eval_part-returns-in_err-done-in-Map
eval_part-returns-in_err-done-in-Map t c =
    let p = c.args.prices.now in let ps = c.in-Map.pairs.items in
    let o : IsOrdered (many dict (map pair_tree ps)) = subst (λ q. IsOrdered (part_tree q)) c.in-Map.is c.requires.ordered in
    exit _ _ _ _ c.from_residual-in_err-done-in-Map.ensures.1 (stop-form c.args.cap c.args.price (value p (part_tree c.args.part.now)) (in_order (map (λ q. value p (pair_tree q)) ps)) _ c.in_err-done-in-Map.field-0.0 (ap (λ q. value p (part_tree q)) c.in-Map.is ∙ map-form p ps o) c.in_err-done-in-Map.ensures)

pub eval_part-map_of-requires : goal.eval_part-map_of-requires
eval_part-map_of-requires t c =
    let p = c.args.prices.now in let ps = c.in-Map.pairs.items in let v = c.in_ok-done-in-Map.done in
    let k : IsClosed (only (many dict (map pair_tree ps))) = subst (λ q. IsClosed (only (part_tree q))) c.in-Map.is c.requires.closed in
    key-operands p c.args.cap c.args.price v.price ps v.value.items (keys-closed [] ps k.1.0.1) (values-closed [] ps k.1.0.1) c.in_ok-done-in-Map.ensures

pub eval_part-returns-in_ok-value-in-Map : goal.eval_part-returns-in_ok-value-in-Map
eval_part-returns-in_ok-value-in-Map t c =
    let p = c.args.prices.now in let ps = c.in-Map.pairs.items in let v = c.in_ok-done-in-Map.done in
    let o : IsOrdered (many dict (map pair_tree ps)) = subst (λ q. IsOrdered (part_tree q)) c.in-Map.is c.requires.ordered in
    told-form (λ q. q.price) (λ q. q.value) c.args.cap c.args.price v.price (map pair_tree v.value.items) (value p (part_tree c.args.part.now)) (in_order (map (λ q. value p (pair_tree q)) ps)) (λ vs. free (within_limits (of_map (ascending vs)))) c.limited-in-Map.result
    (ap (λ q. value p (part_tree q)) c.in-Map.is ∙ map-form p ps o) c.in_ok-done-in-Map.ensures (limited-at (λ q. q.price) (λ q. q.value) c.args.cap v.price _ _ c.limited-in-Map.result c.in_ok-value-in-Map.ensures c.limited-in-Map.ensures)

pub eval_part-returns-in_err-done-in-Bundle : goal.eval_part-returns-in_err-done-in-Bundle
eval_part-returns-in_err-done-in-Bundle t c =
    let p = c.args.prices.now in let b = c.in-Bundle in
    exit _ _ _ _ c.from_residual-in_err-done-in-Bundle.ensures.1 (stop-form c.args.cap c.args.price (value p (part_tree c.args.part.now)) (in_order (value p b.body ∷ [])) _ c.in_err-done-in-Bundle.field-0.0 (ap (λ q. value p (part_tree q)) b.is ∙ value-bundle p b.rights b.body) (stopped-cons c.args.cap c.args.price (value p b.body) [] c.in_err-done-in-Bundle.field-0.0 c.in_err-done-in-Bundle.ensures))

pub eval_part-returns-in_ok-value-in-Bundle : goal.eval_part-returns-in_ok-value-in-Bundle
eval_part-returns-in_ok-value-in-Bundle t c =
    let p = c.args.prices.now in let b = c.in-Bundle in let v = c.in_ok-done-in-Bundle.done in let a = c.in_ok-done-in-Bundle.ensures in
    let h = come-form c.args.cap c.args.price v.price v.price (v.value ∷ []) (only (one (bundle b.rights) v.value)) (value p (part_tree c.args.part.now)) (in_order (value p b.body ∷ [])) (λ vs. pure (only (many (bundle b.rights) vs)))
    (ap (λ q. value p (part_tree q)) b.is ∙ value-bundle p b.rights b.body) (came-one c.args.cap c.args.price v.price v.value (value p b.body) a) (came-pure c.args.cap v.price (only (one (bundle b.rights) v.value)) a.fits) in
    subst (λ u. Came c.args.cap c.args.price v.price u (value p (part_tree c.args.part.now))) (sym c.in_ok-value-in-Bundle.ensures) h

pub eval_part-returns-in_err-arg-in-Unary : goal.eval_part-returns-in_err-arg-in-Unary
eval_part-returns-in_err-arg-in-Unary t c =
    let p = c.args.prices.now in let b = c.in-Unary in
    exit _ _ _ _ c.from_residual-in_err-arg-in-Unary.ensures.1 (stop-form c.args.cap c.args.price (value p (part_tree c.args.part.now)) (in_order (value p b.arg ∷ [])) _ c.in_err-arg-in-Unary.field-0.0 (ap (λ q. value p (part_tree q)) b.is ∙ value-unary p b.op b.arg) (stopped-cons c.args.cap c.args.price (value p b.arg) [] c.in_err-arg-in-Unary.field-0.0 c.in_err-arg-in-Unary.ensures))

pub eval_part-returns-in_ok-arg-in-Unary : goal.eval_part-returns-in_ok-arg-in-Unary
eval_part-returns-in_ok-arg-in-Unary t c =
    let p = c.args.prices.now in let b = c.in-Unary in let v = c.in_ok-arg-in-Unary.arg in
    told-form (λ q. q.price) (λ q. q.value) c.args.cap c.args.price v.price (v.value ∷ []) (value p (part_tree c.args.part.now)) (in_order (value p b.arg ∷ [])) (λ vs. operated p vs (unary_answer b.op (at 0 vs))) c.operate_one.result
    (ap (λ q. value p (part_tree q)) b.is ∙ value-unary p b.op b.arg) (came-one c.args.cap c.args.price v.price v.value (value p b.arg) c.in_ok-arg-in-Unary.ensures) c.operate_one.ensures

pub eval_part-returns-in_err-left-in-Binary : goal.eval_part-returns-in_err-left-in-Binary
eval_part-returns-in_err-left-in-Binary t c =
    let p = c.args.prices.now in let b = c.in-Binary in
    exit _ _ _ _ c.from_residual-in_err-left-in-Binary.ensures.1 (stop-form c.args.cap c.args.price (value p (part_tree c.args.part.now)) (in_order (value p b.left ∷ value p b.right ∷ [])) _ c.in_err-left-in-Binary.field-0.0 (ap (λ q. value p (part_tree q)) b.is ∙ value-binary p b.op b.left b.right) (stopped-cons c.args.cap c.args.price (value p b.left) (value p b.right ∷ []) c.in_err-left-in-Binary.field-0.0 c.in_err-left-in-Binary.ensures))

pub eval_part-returns-in_err-right-in-Binary : goal.eval_part-returns-in_err-right-in-Binary
eval_part-returns-in_err-right-in-Binary t c =
    let p = c.args.prices.now in let b = c.in-Binary in let v = c.in_ok-left-in-Binary.left in
    exit _ _ _ _ c.from_residual-in_err-right-in-Binary.ensures.1 (stop-form c.args.cap c.args.price (value p (part_tree c.args.part.now)) (in_order (value p b.left ∷ value p b.right ∷ [])) _ c.in_err-right-in-Binary.field-0.0 (ap (λ q. value p (part_tree q)) b.is ∙ value-binary p b.op b.left b.right)
    (stopped-rest c.args.cap c.args.price v.price v.value (value p b.left) (value p b.right ∷ []) c.in_err-right-in-Binary.field-0.0 c.in_ok-left-in-Binary.ensures (stopped-cons c.args.cap v.price (value p b.right) [] c.in_err-right-in-Binary.field-0.0 c.in_err-right-in-Binary.ensures)))

pub eval_part-operate_two-requires-clause-left : goal.eval_part-operate_two-requires-clause-left
eval_part-operate_two-requires-clause-left t c =
    let p = c.args.prices.now in let b = c.in-Binary in let v = c.in_ok-left-in-Binary.left in
    let k : IsClosed (only (two (binary b.op) b.left b.right)) = subst (λ q. IsClosed (only (part_tree q))) b.is c.requires.closed in
    operand p c.args.cap c.args.price v.price b.left v.value k.1.0.1.0 c.in_ok-left-in-Binary.ensures

pub eval_part-operate_two-requires-clause-right : goal.eval_part-operate_two-requires-clause-right
eval_part-operate_two-requires-clause-right t c =
    let p = c.args.prices.now in let b = c.in-Binary in let v = c.in_ok-left-in-Binary.left in let w = c.in_ok-right-in-Binary.right in
    let k : IsClosed (only (two (binary b.op) b.left b.right)) = subst (λ q. IsClosed (only (part_tree q))) b.is c.requires.closed in
    operand p c.args.cap v.price w.price b.right w.value k.1.0.1.1.0 c.in_ok-right-in-Binary.ensures

pub eval_part-returns-in_ok-right-in-Binary : goal.eval_part-returns-in_ok-right-in-Binary
eval_part-returns-in_ok-right-in-Binary t c =
    let p = c.args.prices.now in let b = c.in-Binary in let v = c.in_ok-left-in-Binary.left in let w = c.in_ok-right-in-Binary.right in
    told-form (λ q. q.price) (λ q. q.value) c.args.cap c.args.price w.price (v.value ∷ w.value ∷ []) (value p (part_tree c.args.part.now)) (in_order (value p b.left ∷ value p b.right ∷ [])) (λ vs. operated p vs (binary_answer b.op (at 0 vs) (at 1 vs))) c.operate_two.result
    (ap (λ q. value p (part_tree q)) b.is ∙ value-binary p b.op b.left b.right) (came-two c.args.cap c.args.price v.price w.price v.value w.value (value p b.left) (value p b.right) c.in_ok-left-in-Binary.ensures c.in_ok-right-in-Binary.ensures) c.operate_two.ensures

pub eval_part-returns-in_err-target-in-Method : goal.eval_part-returns-in_err-target-in-Method
eval_part-returns-in_err-target-in-Method t c =
    let p = c.args.prices.now in let b = c.in-Method in let xs = b.args.items in
    exit _ _ _ _ c.from_residual-in_err-target-in-Method.ensures.1 (stop-form c.args.cap c.args.price (value p (part_tree c.args.part.now)) (in_order (value p b.target ∷ value p (many row xs) ∷ [])) _ c.in_err-target-in-Method.field-0.0 (ap (λ q. value p (part_tree q)) b.is ∙ value-method p (string_bytes b.name) b.target xs) (stopped-cons c.args.cap c.args.price (value p b.target) (value p (many row xs) ∷ []) c.in_err-target-in-Method.field-0.0 c.in_err-target-in-Method.ensures))

pub eval_part-eval_terms-requires-in-Method : goal.eval_part-eval_terms-requires-in-Method
eval_part-eval_terms-requires-in-Method t c =
    let b = c.in-Method in let xs = b.args.items in let v = c.in_ok-target-in-Method.target in
    let k : IsClosed (only (two (method (string_bytes b.name)) b.target (many row xs))) = subst (λ q. IsClosed (only (part_tree q))) b.is c.requires.closed in
    let w : weight (part_tree c.args.part.now) ≡ weight (two (method (string_bytes b.name)) b.target (many row xs)) = ap (λ q. weight (part_tree q)) b.is in
    (omega (arith, w), (c.requires.cap, (c.in_ok-target-in-Method.ensures.fits, members-closed [] xs k.1.0.1.1.0.1)))

pub eval_part-returns-in_err-args-in-Method : goal.eval_part-returns-in_err-args-in-Method
eval_part-returns-in_err-args-in-Method t c =
    let p = c.args.prices.now in let b = c.in-Method in let xs = b.args.items in let v = c.in_ok-target-in-Method.target in
    exit _ _ _ _ c.from_residual-in_err-args-in-Method.ensures.1 (stop-form c.args.cap c.args.price (value p (part_tree c.args.part.now)) (in_order (value p b.target ∷ value p (many row xs) ∷ [])) _ c.in_err-args-in-Method.field-0.0 (ap (λ q. value p (part_tree q)) b.is ∙ value-method p (string_bytes b.name) b.target xs)
    (stopped-rest c.args.cap c.args.price v.price v.value (value p b.target) (value p (many row xs) ∷ []) c.in_err-args-in-Method.field-0.0 c.in_ok-target-in-Method.ensures
    (stopped-cons c.args.cap v.price (value p (many row xs)) [] c.in_err-args-in-Method.field-0.0 (stop-form c.args.cap v.price (value p (many row xs)) (in_order (map (value p) xs)) _ c.in_err-args-in-Method.field-0.0 (value-row p xs) c.in_err-args-in-Method.ensures))))

pub eval_part-call-requires-clause-target : goal.eval_part-call-requires-clause-target
eval_part-call-requires-clause-target t c =
    let p = c.args.prices.now in let b = c.in-Method in let xs = b.args.items in let v = c.in_ok-target-in-Method.target in
    let k : IsClosed (only (two (method (string_bytes b.name)) b.target (many row xs))) = subst (λ q. IsClosed (only (part_tree q))) b.is c.requires.closed in
    operand p c.args.cap c.args.price v.price b.target v.value k.1.0.1.0 c.in_ok-target-in-Method.ensures

pub eval_part-call-requires-clause-args : goal.eval_part-call-requires-clause-args
eval_part-call-requires-clause-args t c =
    let p = c.args.prices.now in let b = c.in-Method in let xs = b.args.items in let v = c.in_ok-target-in-Method.target in let w = c.in_ok-args-in-Method.args in
    let k : IsClosed (only (two (method (string_bytes b.name)) b.target (many row xs))) = subst (λ q. IsClosed (only (part_tree q))) b.is c.requires.closed in
    operands p c.args.cap v.price w.price xs w.value.items (members-closed [] xs k.1.0.1.1.0.1) c.in_ok-args-in-Method.ensures

pub eval_part-returns-in_ok-args-in-Method : goal.eval_part-returns-in_ok-args-in-Method
eval_part-returns-in_ok-args-in-Method t c =
    let p = c.args.prices.now in let b = c.in-Method in let xs = b.args.items in let v = c.in_ok-target-in-Method.target in let w = c.in_ok-args-in-Method.args in
    let a = c.in_ok-args-in-Method.ensures in
    let r = come-form c.args.cap v.price w.price w.price w.value.items (many row w.value.items) (value p (many row xs)) (in_order (map (value p) xs)) (λ vs. pure (many row vs)) (value-row p xs) a (came-pure c.args.cap w.price (many row w.value.items) a.fits) in
    told-form (λ q. q.price) (λ q. q.value) c.args.cap c.args.price w.price (v.value ∷ many row w.value.items ∷ []) (value p (part_tree c.args.part.now)) (in_order (value p b.target ∷ value p (many row xs) ∷ [])) (λ vs. operated p (at 0 vs ∷ held (at 1 vs)) (method_answer (string_bytes b.name) (at 0 vs) (held (at 1 vs)))) c.call.result
    (ap (λ q. value p (part_tree q)) b.is ∙ value-method p (string_bytes b.name) b.target xs) (came-two c.args.cap c.args.price v.price w.price v.value (many row w.value.items) (value p b.target) (value p (many row xs)) c.in_ok-target-in-Method.ensures r) (called (λ q. q.price) (λ q. q.value) p c.args.cap w.price v.value w.value.items c.as_str.result.now (string_bytes b.name) c.call.result c.as_str.ensures.value c.call.ensures)

pub eval_part-returns-in_ok-value-in_default : goal.eval_part-returns-in_ok-value-in_default
eval_part-returns-in_ok-value-in_default t c =
    let p = c.args.prices.now in
    let d = c.in_default in
    let u : c.in_ok-value-in_default.value ≡ only (part_tree c.args.part.now) = c.in_ok-value-in_default.ensures ∙ ap only c.in_ok-copy-in_default.ensures in
    let q = itself p c.args.part.now d.not-List d.not-Tuple d.not-Set d.not-Map d.not-Bundle d.not-Unary d.not-Binary d.not-Method in
    subst (λ w. Came c.args.cap c.args.price c.args.price w (value p (part_tree c.args.part.now))) (sym u) (subst (λ (o : Outcome Tree). Came c.args.cap c.args.price c.args.price (only (part_tree c.args.part.now)) o) (sym q) (came-pure c.args.cap c.args.price (only (part_tree c.args.part.now)) c.requires.price))

pub eval_pairs-eval_term-requires : goal.eval_pairs-eval_term-requires
eval_pairs-eval_term-requires t c =
    let p = c.args.prices.now in let ps = c.args.pairs.now.items in let i = c.loop-key.key-index in let x = c.loop-key-item.result in
    let l : i < length ps = subst (λ us. i < length us) c.deref-key-items.ensures.value c.loop-key-test.true in
    let e : x ≡ get_or ps i x = subst (λ us. x ≡ get_or us i x) c.deref-key-items.ensures.value c.loop-key-item.is in
    let f = λ (q : Tree × Tree). value p (pair_tree q) in
    let w : weight (pair_tree x) ≤ weights (trees (map pair_tree ps)) = subst (λ y. weight (pair_tree y) ≤ weights (trees (map pair_tree ps))) (sym e) (weight-at pair_tree ps i x l) in
    (omega (arith, w), (c.requires.cap, (c.loop-key.invariant.fits, subst (λ (q : Tree × Tree). IsClosed q.0) (sym e) (c.requires.keys i x l))))

pub eval_pairs-returns-in_err-key : goal.eval_pairs-returns-in_err-key
eval_pairs-returns-in_err-key t c =
    let p = c.args.prices.now in let ps = c.args.pairs.now.items in let i = c.loop-key.key-index in let x = c.loop-key-item.result in
    let l : i < length ps = subst (λ us. i < length us) c.deref-key-items.ensures.value c.loop-key-test.true in
    let e : x ≡ get_or ps i x = subst (λ us. x ≡ get_or us i x) c.deref-key-items.ensures.value c.loop-key-item.is in
    let f = λ (q : Tree × Tree). value p (pair_tree q) in
    exit _ _ _ _ c.from_residual.ensures.1 (leads-stop c.args.cap c.args.price c.loop-key.total (map pair_tree c.loop-key.values.items) (map f ps) (map f (drop i ps)) (map f (drop (i + 1) ps)) (f x) c.in_err-key.field-0.0 (next-of f ps i x l e) c.loop-key.invariant.leads
    (pair-stops-first p c.args.cap c.loop-key.total x c.in_err-key.field-0.0 c.in_err-key.ensures))

pub eval_pairs-eval_term-requires-in-loop-key : goal.eval_pairs-eval_term-requires-in-loop-key
eval_pairs-eval_term-requires-in-loop-key t c =
    let p = c.args.prices.now in let ps = c.args.pairs.now.items in let i = c.loop-key.key-index in let x = c.loop-key-item.result in
    let l : i < length ps = subst (λ us. i < length us) c.deref-key-items.ensures.value c.loop-key-test.true in
    let e : x ≡ get_or ps i x = subst (λ us. x ≡ get_or us i x) c.deref-key-items.ensures.value c.loop-key-item.is in
    let f = λ (q : Tree × Tree). value p (pair_tree q) in
    let w : weight (pair_tree x) ≤ weights (trees (map pair_tree ps)) = subst (λ y. weight (pair_tree y) ≤ weights (trees (map pair_tree ps))) (sym e) (weight-at pair_tree ps i x l) in
    (omega (arith, w), (c.requires.cap, (c.in_ok-key.ensures.fits, subst (λ (q : Tree × Tree). IsClosed q.1) (sym e) (c.requires.values i x l))))

pub eval_pairs-returns-in_err-value : goal.eval_pairs-returns-in_err-value
eval_pairs-returns-in_err-value t c =
    let p = c.args.prices.now in let ps = c.args.pairs.now.items in let i = c.loop-key.key-index in let x = c.loop-key-item.result in
    let l : i < length ps = subst (λ us. i < length us) c.deref-key-items.ensures.value c.loop-key-test.true in
    let e : x ≡ get_or ps i x = subst (λ us. x ≡ get_or us i x) c.deref-key-items.ensures.value c.loop-key-item.is in
    let f = λ (q : Tree × Tree). value p (pair_tree q) in
    let k = c.in_ok-key.key in
    exit _ _ _ _ c.from_residual-in_err-value.ensures.1 (leads-stop c.args.cap c.args.price c.loop-key.total (map pair_tree c.loop-key.values.items) (map f ps) (map f (drop i ps)) (map f (drop (i + 1) ps)) (f x) c.in_err-value.field-0.0 (next-of f ps i x l e) c.loop-key.invariant.leads
    (pair-stops-second p c.args.cap c.loop-key.total k.price k.value x c.in_err-value.field-0.0 c.in_ok-key.ensures c.in_err-value.ensures))

pub eval_pairs-loop-key-preserved : goal.eval_pairs-loop-key-preserved
eval_pairs-loop-key-preserved t c =
    let p = c.args.prices.now in let ps = c.args.pairs.now.items in let i = c.loop-key.key-index in let x = c.loop-key-item.result in
    let l : i < length ps = subst (λ us. i < length us) c.deref-key-items.ensures.value c.loop-key-test.true in
    let e : x ≡ get_or ps i x = subst (λ us. x ≡ get_or us i x) c.deref-key-items.ensures.value c.loop-key-item.is in
    let f = λ (q : Tree × Tree). value p (pair_tree q) in
    let k = c.in_ok-key.key in let v = c.in_ok-value.value in
    let h = leads-next c.args.cap c.args.price c.loop-key.total v.price (map pair_tree c.loop-key.values.items) (pair_tree (k.value, v.value)) (map f ps) (map f (drop i ps)) (map f (drop (i + 1) ps)) (f x)
    (next-of f ps i x l e) c.loop-key.invariant.leads (pair-comes p c.args.cap c.loop-key.total k.price v.price k.value v.value x c.in_ok-key.ensures c.in_ok-value.ensures) in
    record {
      fits = c.in_ok-value.ensures.fits;
      leads = subst (λ vs. Leads c.args.cap c.args.price v.price vs (map f ps) (map f (drop (i + 1) ps))) (sym (ap (map pair_tree) c.in_ok-push.ensures.items ∙ map-append pair_tree c.loop-key.values.items ((k.value, v.value) ∷ []))) h;
    }

pub eval_pairs-returns : goal.eval_pairs-returns
eval_pairs-returns t c =
    let p = c.args.prices.now in let ps = c.args.pairs.now.items in let i = c.loop-key.key-index in
    let f = λ (q : Tree × Tree). value p (pair_tree q) in
    let l : length ps ≤ i = subst (λ us. length us ≤ i) c.deref-key-items.ensures.value c.loop-key-test.false in
    leads-end c.args.cap c.args.price c.loop-key.total (map pair_tree c.loop-key.values.items) (map f ps) (map f (drop i ps)) (none-of f ps i l) c.loop-key.invariant.fits c.loop-key.invariant.leads
