use Rattle.std.proofs.Common.{◌≡◌, ◌≤◌, cond, eqb, [], ◌++◌, map, length, codes, sym, ap, subst, ◌∙◌, arith, string_bytes}
use Rattle.std.proofs.lemmas.List.{length-map}
use Rattle.calculus.specs.Form.{term, part, a_bind, a_case, pat, name_pat, pat_part, name_part, pair_of}
use Rattle.calculus.specs.Printed.{variable_text}
use Rattle.calculus.specs.Shape.{one, two, many, leaf}
use Rattle.calculus.specs.Texts.{to_hex}
use Rattle.calculus.specs.Tree.{row, list, tuple, set, dict, send, receive, new, match, unary, method, rest, list_pattern, set_pattern, map_pattern, weight, weights, trees}
use Rattle.rho_term.specs.Normal.{IsNormal, IsOrdered}
use Rattle.rho_term.specs.Parts.{part_tree, pat_part_tree, pair_tree, bind_tree, case_tree}
use Rattle.rho_term.proofs.Trees.{weight-at, tree-at, ordered-at}
use Rattle.printed_leaves.specs.Texts.{text_of, bind_text_of, WritesListed}
use Rattle.printed_leaves.proofs.BindForms.{bind-writes, case-writes, closed-writes, ground-text, ground-writes}
use Rattle.printed_leaves.proofs.Forms.{after, shown, process-writes, operand-writes, between, list-writes, tuple-writes, set-writes, map-writes, pair-writes, send-writes, receive-writes, new-writes, match-writes, bundle-writes, not-writes, neg-writes, binary-writes, method-writes}
use Rattle.printed_leaves.proofs.Lists.{at_start, goes_on, at_end, at_start_from, goes_on_from, at_end_from, taken_at, taken_of, none_left, none_left_of}
use Rattle.printed_leaves.proofs.Moving.{same_writes, same_pattern}
use Rattle.printed_leaves.proofs.PatternForms.{pat_formed, pattern-writes, pattern_operand-writes, name_pattern-bare, name_pattern-quoted, joined-writes, both-writes, either-writes, not_this-writes, same-writes, members-writes, list_pattern-writes, set_pattern-writes, map_pattern-writes, pair_pattern-writes, tuple_pattern-writes, pattern_send-writes, pattern_bundle-writes}
use Rattle.printed_leaves.proofs.Rows.{nothing_more}
use Rattle.printed_leaves.proofs.Singles.{name_whole, name_completed}
use Rattle.rho_printer.proofs.+print.Goals as goal

pub terms::put_term-loop-i-init : goal.terms::put_term-loop-i-init
terms::put_term-loop-i-init t c = λ h. (h, at_start (λ u n. text_of part u c.args.depth n) part (codes " | ") (map part_tree c.parts-parts.result.now) _)

pub terms::put_term-put_part-requires : goal.terms::put_term-put_part-requires
terms::put_term-put_part-requires t c =
    let w : weight (part_tree c.index-parts-i.result) ≤ weights (trees (map part_tree c.parts-parts.result.now)) = rw c.index-parts-i.is (weight-at part_tree _ _ _ c.loop-i-test.true) in
    let o : IsOrdered (part_tree c.index-parts-i.result) = rw c.index-parts-i.is (ordered-at part_tree _ _ _ c.loop-i-test.true (subst IsNormal c.parts-parts.ensures.parts c.parts-parts.ensures.normal).1) in
    (omega (arith, w, ap weight c.parts-parts.ensures.parts), o)

pub terms::put_term-loop-i-preserved : goal.terms::put_term-loop-i-preserved
terms::put_term-loop-i-preserved t c = λ h.
    let q = c.put_part.ensures h in
    let p = c.separate.ensures q.0 in
    let w = c.loop-i.invariant p.0 in
    (w.0, goes_on (λ u n. text_of part u c.args.depth n) part (codes " | ") (map part_tree c.parts-parts.result.now) c.loop-i.i (part_tree c.index-parts-i.result) _ _ _ _ w.1 (taken_of part_tree c.parts-parts.result.now c.loop-i.i c.index-parts-i.result c.loop-i-test.true c.index-parts-i.is) p.1 q.1)

pub terms::put_term-returns : goal.terms::put_term-returns
terms::put_term-returns t c = λ h.
    let w = c.loop-i.invariant h in
    let k = c.word_if.ensures w.0 in (
      k.0,
      process-writes c.parts-parts.result.now c.args.term.now c.args.depth _ _ _ c.parts-parts.ensures.parts c.parts-parts.ensures.normal
          (shown _ (ap (λ b. cond b (codes "Nil") []) (sym c.is_empty.ensures)) k.1)
          (at_end (λ u n. text_of part u c.args.depth n) part (codes " | ") (map part_tree c.parts-parts.result.now) c.loop-i.i _ _ w.1 (none_left_of part_tree c.parts-parts.result.now c.loop-i.i c.loop-i-test.false)),
    )

pub terms::put_operand-put_term-requires : goal.terms::put_operand-put_term-requires
terms::put_operand-put_term-requires t c = (omega arith, tt)

pub terms::put_operand-returns : goal.terms::put_operand-returns
terms::put_operand-returns t c = λ h.
    let r = c.word_unless-2.ensures h in
    let q = c.put_term.ensures r.0 in
    let p = c.word_unless.ensures q.0 in
    (p.0, operand-writes c.is_atom-bare.result c.args.term.now c.args.depth _ _ _ _ c.is_atom-bare.ensures p.1 q.1 r.1)

pub terms::put_name-returns-then-name : goal.terms::put_name-returns-then-name
terms::put_name-returns-then-name t c = λ h.
    let k = c.name.ensures h in
    (k.0, name_whole c.name.result c.args.term.now c.args.depth _ _ c.if-name.true k.1)

pub terms::put_name-put_operand-requires : goal.terms::put_name-put_operand-requires
terms::put_name-put_operand-requires t c = (omega arith, tt)

pub terms::put_name-returns : goal.terms::put_name-returns
terms::put_name-returns t c = λ h.
    let q = c.put_operand.ensures h in
    let k = c.name.ensures q.0 in
    (k.0, name_completed c.name.result c.args.term.now c.args.depth _ _ _ c.if-name.false k.1 q.1)

pub terms::put_terms-loop-i-init : goal.terms::put_terms-loop-i-init
terms::put_terms-loop-i-init t c = λ h. (h, at_start (λ u n. text_of term u c.args.depth n) term (codes ", ") c.args.terms.now _)

pub terms::put_terms-put_term-requires : goal.terms::put_terms-put_term-requires
terms::put_terms-put_term-requires t c =
    let w : weight c.index-terms-i.result ≤ weights (trees c.args.terms.now) = rw c.index-terms-i.is (tree-at _ _ _ c.loop-i-test.true) in
    (omega (arith, w), tt)

pub terms::put_terms-loop-i-preserved : goal.terms::put_terms-loop-i-preserved
terms::put_terms-loop-i-preserved t c = λ h.
    let q = c.put_term.ensures h in
    let p = c.separate.ensures q.0 in
    let w = c.loop-i.invariant p.0 in
    (w.0, goes_on (λ u n. text_of term u c.args.depth n) term (codes ", ") c.args.terms.now c.loop-i.i c.index-terms-i.result _ _ _ _ w.1 (taken_at c.args.terms.now c.loop-i.i c.index-terms-i.result c.loop-i-test.true c.index-terms-i.is) p.1 q.1)

pub terms::put_terms-returns : goal.terms::put_terms-returns
terms::put_terms-returns t c = λ h.
    let w = c.loop-i.invariant h in
    (w.0, at_end (λ u n. text_of term u c.args.depth n) term (codes ", ") c.args.terms.now c.loop-i.i _ _ w.1 (none_left c.args.terms.now c.loop-i.i c.loop-i-test.false))

pub terms::put_pairs-loop-i-init : goal.terms::put_pairs-loop-i-init
terms::put_pairs-loop-i-init t c = λ h. (h, at_start (λ u n. text_of (pair_of term) u c.args.depth n) (pair_of term) (codes ", ") (map pair_tree c.args.pairs.now) _)

pub terms::put_pairs-put_term-requires : goal.terms::put_pairs-put_term-requires
terms::put_pairs-put_term-requires t c =
    let w : weight (pair_tree c.index-pairs-i.result) ≤ weights (trees (map pair_tree c.args.pairs.now)) = rw c.index-pairs-i.is (weight-at pair_tree _ _ _ c.loop-i-test.true) in
    (omega (arith, w), tt)

pub terms::put_pairs-put_term-requires-in-loop-i : goal.terms::put_pairs-put_term-requires-in-loop-i
terms::put_pairs-put_term-requires-in-loop-i t c =
    let w : weight (pair_tree c.index-pairs-i.result) ≤ weights (trees (map pair_tree c.args.pairs.now)) = rw c.index-pairs-i.is (weight-at pair_tree _ _ _ c.loop-i-test.true) in
    (omega (arith, w), tt)

pub terms::put_pairs-loop-i-preserved : goal.terms::put_pairs-loop-i-preserved
terms::put_pairs-loop-i-preserved t c = λ h.
    let s = c.put_term-in-loop-i.ensures h in
    let r = c.word.ensures s.0 in
    let q = c.put_term.ensures r.0 in
    let p = c.separate.ensures q.0 in
    let w = c.loop-i.invariant p.0 in (
      w.0,
      goes_on (λ u n. text_of (pair_of term) u c.args.depth n) (pair_of term) (codes ", ") (map pair_tree c.args.pairs.now) c.loop-i.i (pair_tree c.index-pairs-i.result) _ _ _ _ w.1 (taken_of pair_tree c.args.pairs.now c.loop-i.i c.index-pairs-i.result c.loop-i-test.true c.index-pairs-i.is) p.1
          (pair-writes c.index-pairs-i.result.0 c.index-pairs-i.result.1 c.args.depth _ _ _ _ q.1 r.1 s.1),
    )

pub terms::put_pairs-returns : goal.terms::put_pairs-returns
terms::put_pairs-returns t c = λ h.
    let w = c.loop-i.invariant h in
    (w.0, at_end (λ u n. text_of (pair_of term) u c.args.depth n) (pair_of term) (codes ", ") (map pair_tree c.args.pairs.now) c.loop-i.i _ _ w.1 (none_left_of pair_tree c.args.pairs.now c.loop-i.i c.loop-i-test.false))

pub parts::put_part-returns-in-Ground : goal.parts::put_part-returns-in-Ground
parts::put_part-returns-in-Ground t c = λ h.
    let p = c.ground.ensures h in
    (p.0, λ f n. shown _ (ap (λ q. text_of part (part_tree q) c.args.depth n) c.in-Ground.is ∙ ground-text c.in-Ground.value c.args.depth n) p.1)

pub parts::put_part-returns-in-Fresh : goal.parts::put_part-returns-in-Fresh
parts::put_part-returns-in-Fresh t c = λ h.
    let q = c.fresh.ensures h in
    let p = c.word.ensures q.0 in
    (p.0, λ f n. shown _ (ap (λ q. text_of part (part_tree q) c.args.depth n) c.in-Fresh.is) (after _ (codes "*") (codes "$" ++ to_hex c.in-Fresh.name.0) p.1 q.1))

pub parts::put_part-returns-in-Var : goal.parts::put_part-returns-in-Var
parts::put_part-returns-in-Var t c = λ h.
    let p = c.variable.ensures h in
    (p.0, λ f n. shown _ (ap (λ q. text_of part (part_tree q) c.args.depth n) c.in-Var.is ∙ ap variable_text (sym c.number_of.ensures)) p.1)

pub parts::put_part-returns-in-NameVar : goal.parts::put_part-returns-in-NameVar
parts::put_part-returns-in-NameVar t c = λ h.
    let q = c.variable-in-NameVar.ensures h in
    let p = c.word-in-NameVar.ensures q.0 in
    (p.0, λ f n. shown _ (ap (λ q. text_of part (part_tree q) c.args.depth n) c.in-NameVar.is ∙ ap (λ m. codes "*" ++ variable_text m) (sym c.number_of-in-NameVar.ensures)) (after _ (codes "*") (variable_text c.number_of-in-NameVar.result) p.1 q.1))

pub parts::put_part-put_terms-requires : goal.parts::put_part-put_terms-requires
parts::put_part-put_terms-requires t c = (omega (arith, ap (λ q. weight (part_tree q)) c.in-List.is, ap (λ us. weights (trees us)) c.deref.ensures.value), tt)

pub parts::put_part-returns-in-List : goal.parts::put_part-returns-in-List
parts::put_part-returns-in-List t c = λ h.
    let r = c.word-in-List-2.ensures h in
    let q = c.put_terms.ensures r.0 in
    let p = c.word-in-List.ensures q.0 in
    let e = ap (λ us. many list us) c.deref.ensures.value ∙ sym (ap part_tree c.in-List.is) in
    (p.0, same_writes _ _ c.args.depth _ _ e (list-writes c.deref.result.now c.args.depth _ _ (between _ _ c.deref.result.now c.args.depth _ _ _ _ p.1 q.1 r.1)))

pub parts::put_part-put_terms-requires-in-Tuple : goal.parts::put_part-put_terms-requires-in-Tuple
parts::put_part-put_terms-requires-in-Tuple t c = (omega (arith, ap (λ q. weight (part_tree q)) c.in-Tuple.is, ap (λ us. weights (trees us)) c.deref-in-Tuple.ensures.value), tt)

pub parts::put_part-returns-in-Tuple : goal.parts::put_part-returns-in-Tuple
parts::put_part-returns-in-Tuple t c = λ h.
    let r = c.word-in-Tuple-2.ensures h in
    let q = c.put_terms-in-Tuple.ensures r.0 in
    let p = c.word-in-Tuple.ensures q.0 in
    let e = ap (λ us. many tuple us) c.deref-in-Tuple.ensures.value ∙ sym (ap part_tree c.in-Tuple.is) in
    let l : c.len.result ≡ length c.deref-in-Tuple.result.now = omega (arith, ap length c.deref-in-Tuple.ensures.value) in
    (p.0, same_writes _ _ c.args.depth _ _ e (tuple-writes c.deref-in-Tuple.result.now c.args.depth _ _ _ (c.tuple_end.ensures ∙ ap (λ k. cond (eqb k 1) (codes ",)") (codes ")")) l) (between _ _ c.deref-in-Tuple.result.now c.args.depth _ _ _ _ p.1 q.1 r.1)))

pub parts::put_part-put_terms-requires-in-Set : goal.parts::put_part-put_terms-requires-in-Set
parts::put_part-put_terms-requires-in-Set t c = (omega (arith, ap (λ q. weight (part_tree q)) c.in-Set.is, ap (λ us. weights (trees us)) c.deref-in-Set.ensures.value), tt)

pub parts::put_part-returns-in-Set : goal.parts::put_part-returns-in-Set
parts::put_part-returns-in-Set t c = λ h.
    let r = c.word-in-Set-2.ensures h in
    let q = c.put_terms-in-Set.ensures r.0 in
    let p = c.word-in-Set.ensures q.0 in
    let e = ap (λ us. many set us) c.deref-in-Set.ensures.value ∙ sym (ap part_tree c.in-Set.is) in
    (p.0, same_writes _ _ c.args.depth _ _ e (set-writes c.deref-in-Set.result.now c.args.depth _ _ (subst IsOrdered (sym e) c.requires) (between _ _ c.deref-in-Set.result.now c.args.depth _ _ _ _ p.1 q.1 r.1)))

pub parts::put_part-put_pairs-requires : goal.parts::put_part-put_pairs-requires
parts::put_part-put_pairs-requires t c = (omega (arith, ap (λ q. weight (part_tree q)) c.in-Map.is, ap (λ us. weights (trees (map pair_tree us))) c.deref-in-Map.ensures.value), tt)

pub parts::put_part-returns-in-Map : goal.parts::put_part-returns-in-Map
parts::put_part-returns-in-Map t c = λ h.
    let r = c.word-in-Map-2.ensures h in
    let q = c.put_pairs.ensures r.0 in
    let p = c.word-in-Map.ensures q.0 in
    let e = ap (λ us. many dict (map pair_tree us)) c.deref-in-Map.ensures.value ∙ sym (ap part_tree c.in-Map.is) in
    (p.0, same_writes _ _ c.args.depth _ _ e (map-writes (map pair_tree c.deref-in-Map.result.now) c.args.depth _ _ _ _ (subst IsOrdered (sym e) c.requires) p.1 q.1 r.1))

pub parts::put_part-put_name-requires : goal.parts::put_part-put_name-requires
parts::put_part-put_name-requires t c = (omega (arith, ap (λ q. weight (part_tree q)) c.in-Send.is), tt)

pub parts::put_part-put_terms-requires-in-Send : goal.parts::put_part-put_terms-requires-in-Send
parts::put_part-put_terms-requires-in-Send t c = (omega (arith, ap (λ q. weight (part_tree q)) c.in-Send.is, ap (λ us. weights (trees us)) c.deref-in-Send.ensures.value), tt)

pub parts::put_part-returns-in-Send : goal.parts::put_part-returns-in-Send
parts::put_part-returns-in-Send t c = λ h.
    let s = c.word-in-Send-2.ensures h in
    let r = c.put_terms-in-Send.ensures s.0 in
    let q = c.word-in-Send.ensures r.0 in
    let p = c.put_name.ensures q.0 in
    let e = ap (λ us. two (send c.in-Send.persistent) c.in-Send.channel (many row us)) c.deref-in-Send.ensures.value ∙ sym (ap part_tree c.in-Send.is) in
    (p.0, same_writes _ _ c.args.depth _ _ e (send-writes c.in-Send.persistent c.in-Send.channel c.deref-in-Send.result.now c.args.depth _ _ _ _ _ p.1 (shown _ (sym c.send_marks.ensures) q.1) r.1 s.1))

pub parts::put_part-put_binds-inner-requires : goal.parts::put_part-put_binds-inner-requires
parts::put_part-put_binds-inner-requires t c = (omega (arith, ap (λ q. weight (part_tree q)) c.in-Receive.is, ap (λ us. weights (trees (map bind_tree us))) c.deref-in-Receive.ensures.value), tt)

pub parts::put_part-put_term-requires : goal.parts::put_part-put_term-requires
parts::put_part-put_term-requires t c = (omega (arith, ap (λ q. weight (part_tree q)) c.in-Receive.is), tt)

pub parts::put_part-returns-in-Receive : goal.parts::put_part-returns-in-Receive
parts::put_part-returns-in-Receive t c = λ h.
    let s = c.word-in-Receive-3.ensures h in
    let v = c.put_term.ensures s.0 in
    let r = c.word-in-Receive-2.ensures v.0 in
    let q = c.put_binds-inner.ensures r.0 in
    let p = c.word-in-Receive.ensures q.0 in
    let e = ap (λ us. two (receive c.in-Receive.kind) (many row (map bind_tree us)) c.in-Receive.body) c.deref-in-Receive.ensures.value ∙ sym (ap part_tree c.in-Receive.is) in
    (p.0, same_writes _ _ c.args.depth _ _ e (receive-writes c.in-Receive.kind (map bind_tree c.deref-in-Receive.result.now) c.in-Receive.body c.args.depth _ _ _ _ _ _ _ p.1 q.1 r.1 v.1 s.1))

pub parts::put_part-put_term-requires-in-New : goal.parts::put_part-put_term-requires-in-New
parts::put_part-put_term-requires-in-New t c = (omega (arith, ap (λ q. weight (part_tree q)) c.in-New.is), tt)

pub parts::put_part-returns-in-New : goal.parts::put_part-returns-in-New
parts::put_part-returns-in-New t c = λ h.
    let s = c.word-in-New-3.ensures h in
    let v = c.put_term-in-New.ensures s.0 in
    let r = c.word-in-New-2.ensures v.0 in
    let q = c.declared-inner.ensures r.0 in
    let p = c.word-in-New.ensures q.0 in
    let e = ap (λ us. one (new us) c.in-New.body) c.deref-in-New.ensures.value ∙ sym (ap part_tree c.in-New.is) in
    (p.0, same_writes _ _ c.args.depth _ _ e (new-writes c.deref-in-New.result.now c.in-New.body c.args.depth _ _ _ _ _ _ _ p.1 q.1 r.1 v.1 s.1))

pub parts::put_part-put_term-requires-in-Match : goal.parts::put_part-put_term-requires-in-Match
parts::put_part-put_term-requires-in-Match t c = (omega (arith, ap (λ q. weight (part_tree q)) c.in-Match.is), tt)

pub parts::put_part-put_cases-requires : goal.parts::put_part-put_cases-requires
parts::put_part-put_cases-requires t c = (omega (arith, ap (λ q. weight (part_tree q)) c.in-Match.is, ap (λ us. weights (trees (map case_tree us))) c.deref-in-Match.ensures.value), tt)

pub parts::put_part-returns-in-Match : goal.parts::put_part-returns-in-Match
parts::put_part-returns-in-Match t c = λ h.
    let s = c.word-in-Match-3.ensures h in
    let v = c.put_cases.ensures s.0 in
    let r = c.word-in-Match-2.ensures v.0 in
    let q = c.put_term-in-Match.ensures r.0 in
    let p = c.word-in-Match.ensures q.0 in
    let e = ap (λ us. two match c.in-Match.target (many row (map case_tree us))) c.deref-in-Match.ensures.value ∙ sym (ap part_tree c.in-Match.is) in
    (p.0, same_writes _ _ c.args.depth _ _ e (match-writes c.in-Match.target (map case_tree c.deref-in-Match.result.now) c.args.depth _ _ _ _ _ _ p.1 q.1 r.1 v.1 s.1))

pub parts::put_part-put_term-requires-in-Bundle : goal.parts::put_part-put_term-requires-in-Bundle
parts::put_part-put_term-requires-in-Bundle t c = (omega (arith, ap (λ q. weight (part_tree q)) c.in-Bundle.is), tt)

pub parts::put_part-returns-in-Bundle : goal.parts::put_part-returns-in-Bundle
parts::put_part-returns-in-Bundle t c = λ h.
    let s = c.word-in-Bundle-3.ensures h in
    let r = c.put_term-in-Bundle.ensures s.0 in
    let q = c.word-in-Bundle-2.ensures r.0 in
    let p = c.word-in-Bundle.ensures q.0 in
    (p.0, same_writes _ _ c.args.depth _ _ (sym (ap part_tree c.in-Bundle.is)) (bundle-writes c.in-Bundle.rights c.in-Bundle.body c.args.depth _ _ _ _ _ (shown _ (sym c.rights_word.ensures) p.1) q.1 r.1 s.1))

pub parts::put_part-put_unary-requires : goal.parts::put_part-put_unary-requires
parts::put_part-put_unary-requires t c = (omega (arith, ap (λ q. weight (part_tree q)) c.in-Unary.is), tt)

pub parts::put_part-returns-in-Unary : goal.parts::put_part-returns-in-Unary
parts::put_part-returns-in-Unary t c = λ h.
    let p = c.put_unary.ensures h in
    (p.0, same_writes _ _ c.args.depth _ _ (sym (ap part_tree c.in-Unary.is)) p.1)

pub parts::put_part-put_operand-requires : goal.parts::put_part-put_operand-requires
parts::put_part-put_operand-requires t c = (omega (arith, ap (λ q. weight (part_tree q)) c.in-Binary.is), tt)

pub parts::put_part-put_operand-requires-in-Binary : goal.parts::put_part-put_operand-requires-in-Binary
parts::put_part-put_operand-requires-in-Binary t c = (omega (arith, ap (λ q. weight (part_tree q)) c.in-Binary.is), tt)

pub parts::put_part-returns-in-Binary : goal.parts::put_part-returns-in-Binary
parts::put_part-returns-in-Binary t c = λ h.
    let s = c.word-in-Binary-3.ensures h in
    let v = c.put_operand-in-Binary.ensures s.0 in
    let r = c.word-in-Binary-2.ensures v.0 in
    let q = c.put_operand.ensures r.0 in
    let p = c.word-in-Binary.ensures q.0 in
    (p.0, same_writes _ _ c.args.depth _ _ (sym (ap part_tree c.in-Binary.is)) (binary-writes c.in-Binary.op c.in-Binary.left c.in-Binary.right c.args.depth _ _ _ _ _ _ p.1 q.1 (shown _ (sym c.op_word.ensures) r.1) v.1 s.1))

pub parts::put_part-put_operand-requires-in-Method : goal.parts::put_part-put_operand-requires-in-Method
parts::put_part-put_operand-requires-in-Method t c = (omega (arith, ap (λ q. weight (part_tree q)) c.in-Method.is), tt)

pub parts::put_part-put_terms-requires-in-Method : goal.parts::put_part-put_terms-requires-in-Method
parts::put_part-put_terms-requires-in-Method t c = (omega (arith, ap (λ q. weight (part_tree q)) c.in-Method.is, ap (λ us. weights (trees us)) c.deref-in-Method.ensures.value), tt)

pub parts::put_part-returns-in-Method : goal.parts::put_part-returns-in-Method
parts::put_part-returns-in-Method t c = λ h.
    let k = c.word-in-Method-5.ensures h in
    let g = c.put_terms-in-Method.ensures k.0 in
    let s = c.word-in-Method-4.ensures g.0 in
    let r = c.word-in-Method-3.ensures s.0 in
    let q = c.word-in-Method-2.ensures r.0 in
    let f = c.put_operand-in-Method.ensures q.0 in
    let p = c.word-in-Method.ensures f.0 in
    let e = ap (λ us. two (method (string_bytes c.in-Method.name)) c.in-Method.target (many row us)) c.deref-in-Method.ensures.value ∙ sym (ap part_tree c.in-Method.is) in
    (p.0, same_writes _ _ c.args.depth _ _ e (method-writes (string_bytes c.in-Method.name) c.in-Method.target c.deref-in-Method.result.now c.args.depth _ _ _ _ _ _ _ _ p.1 f.1 q.1 (shown _ (sym c.as_bytes.ensures.value) r.1) s.1 g.1 k.1))

pub parts::put_unary-put_operand-requires : goal.parts::put_unary-put_operand-requires
parts::put_unary-put_operand-requires t c = (omega arith, tt)

pub parts::put_unary-returns-in-Not : goal.parts::put_unary-returns-in-Not
parts::put_unary-returns-in-Not t c = λ h.
    let r = c.word-in-Not.ensures h in
    let q = c.put_operand.ensures r.0 in
    let p = c.word.ensures q.0 in
    (p.0, same_writes _ _ c.args.depth _ _ (ap (λ o. one (unary o) c.args.arg.now) (sym c.in-Not.is)) (not-writes c.args.arg.now c.args.depth _ _ _ _ p.1 q.1 r.1))

pub parts::put_unary-put_term-requires : goal.parts::put_unary-put_term-requires
parts::put_unary-put_term-requires t c = (omega arith, tt)

pub parts::put_unary-returns-in-Neg : goal.parts::put_unary-returns-in-Neg
parts::put_unary-returns-in-Neg t c = λ h.
    let r = c.word-in-Neg-2.ensures h in
    let q = c.put_term.ensures r.0 in
    let p = c.word-in-Neg.ensures q.0 in
    (p.0, same_writes _ _ c.args.depth _ _ (ap (λ o. one (unary o) c.args.arg.now) (sym c.in-Neg.is)) (neg-writes c.args.arg.now c.args.depth _ _ _ _ p.1 q.1 r.1))

pub binds::put_binds-loop-i-init : goal.binds::put_binds-loop-i-init
binds::put_binds-loop-i-init t c = λ h. (h, at_start_from (λ u n. bind_text_of c.args.kind u c.args.depth n) a_bind (codes " & ") (map bind_tree c.args.binds.now) c.args.depth c.args.depth _)

pub binds::put_binds-put_bind-next-requires : goal.binds::put_binds-put_bind-next-requires
binds::put_binds-put_bind-next-requires t c =
    let w : weight (bind_tree c.index-binds-i.result) ≤ weights (trees (map bind_tree c.args.binds.now)) = rw c.index-binds-i.is (weight-at bind_tree _ _ _ c.loop-i-test.true) in
    (omega (arith, w), tt)

pub binds::put_binds-loop-i-preserved : goal.binds::put_binds-loop-i-preserved
binds::put_binds-loop-i-preserved t c = λ h.
    let q = c.put_bind-next.ensures h in
    let p = c.separate.ensures q.0 in
    let w = c.loop-i.invariant p.0 in
    (w.0, goes_on_from (λ u n. bind_text_of c.args.kind u c.args.depth n) a_bind (codes " & ") (map bind_tree c.args.binds.now) c.loop-i.i c.loop-i.next _ c.args.depth c.args.depth (bind_tree c.index-binds-i.result) _ _ _ _ w.1 (taken_of bind_tree c.args.binds.now c.loop-i.i c.index-binds-i.result c.loop-i-test.true c.index-binds-i.is) p.1 q.1)

pub binds::put_binds-returns : goal.binds::put_binds-returns
binds::put_binds-returns t c = λ h.
    let w = c.loop-i.invariant h in
    (w.0, at_end_from (λ u n. bind_text_of c.args.kind u c.args.depth n) a_bind (codes " & ") (map bind_tree c.args.binds.now) c.loop-i.i c.loop-i.next c.args.depth c.args.depth _ _ w.1 (none_left_of bind_tree c.args.binds.now c.loop-i.i c.loop-i-test.false))

pub binds::put_bind-put_name_pats-middle-requires : goal.binds::put_bind-put_name_pats-middle-requires
binds::put_bind-put_name_pats-middle-requires t c = (omega (arith, ap (λ us. weights (trees us)) c.deref.ensures.value), tt)

pub binds::put_bind-put_name-requires : goal.binds::put_bind-put_name-requires
binds::put_bind-put_name-requires t c = (omega arith, tt)

pub binds::put_bind-returns : goal.binds::put_bind-returns
binds::put_bind-returns t c = λ h.
    let s = c.put_name.ensures h in
    let r = c.word.ensures s.0 in
    let q = c.space_since.ensures r.0 in
    let a = c.rest-after.ensures q.0 in
    let w = c.put_name_pats-middle.ensures a.0 in
    let v = subst (λ us. WritesListed name_pat us c.args.depth c.args.next c.put_name_pats-middle.result c.args.page.now.bytes.items c.put_name_pats-middle.new.page.bytes.items) c.deref.ensures.value w.1 in
    let l : c.len.result ≡ length c.args.bind.now.pats.items = omega arith in
    (w.0, bind-writes c.args.kind c.args.bind.now c.args.depth c.args.next _ _ _ _ _ _ _ _ _ _ c.len-start.ensures v l a.1 q.1 (shown _ (sym c.arrow.ensures) r.1) s.1)

pub binds::put_cases-loop-i-init : goal.binds::put_cases-loop-i-init
binds::put_cases-loop-i-init t c = λ h. (h, at_start (λ u n. text_of a_case u c.args.depth n) a_case (codes " ") (map case_tree c.args.cases.now) _)

pub binds::put_cases-put_pat-inner-requires : goal.binds::put_cases-put_pat-inner-requires
binds::put_cases-put_pat-inner-requires t c =
    let w : weight (case_tree c.index-cases-i.result) ≤ weights (trees (map case_tree c.args.cases.now)) = rw c.index-cases-i.is (weight-at case_tree _ _ _ c.loop-i-test.true) in
    (omega (arith, w), tt)

pub binds::put_cases-put_term-requires : goal.binds::put_cases-put_term-requires
binds::put_cases-put_term-requires t c =
    let w : weight (case_tree c.index-cases-i.result) ≤ weights (trees (map case_tree c.args.cases.now)) = rw c.index-cases-i.is (weight-at case_tree _ _ _ c.loop-i-test.true) in
    (omega (arith, w), tt)

pub binds::put_cases-loop-i-preserved : goal.binds::put_cases-loop-i-preserved
binds::put_cases-loop-i-preserved t c = λ h.
    let s = c.word-in-loop-i-2.ensures h in
    let v = c.put_term.ensures s.0 in
    let r = c.word-in-loop-i.ensures v.0 in
    let q = c.put_pat-inner.ensures r.0 in
    let o = c.word.ensures q.0 in
    let p = c.separate.ensures o.0 in
    let w = c.loop-i.invariant p.0 in (
      w.0,
      goes_on (λ u n. text_of a_case u c.args.depth n) a_case (codes " ") (map case_tree c.args.cases.now) c.loop-i.i (case_tree c.index-cases-i.result) _ _ _ _ w.1 (taken_of case_tree c.args.cases.now c.loop-i.i c.index-cases-i.result c.loop-i-test.true c.index-cases-i.is) p.1
          (case-writes c.index-cases-i.result c.args.depth _ _ _ _ _ _ _ o.1 q.1 r.1 v.1 s.1),
    )

pub binds::put_cases-returns : goal.binds::put_cases-returns
binds::put_cases-returns t c = λ h.
    let w = c.loop-i.invariant h in
    (w.0, at_end (λ u n. text_of a_case u c.args.depth n) a_case (codes " ") (map case_tree c.args.cases.now) c.loop-i.i _ _ w.1 (none_left_of case_tree c.args.cases.now c.loop-i.i c.loop-i-test.false))

pub patterns::put_pat-loop-i-init : goal.patterns::put_pat-loop-i-init
patterns::put_pat-loop-i-init t c = λ h. (h, at_start_from (λ u n. text_of pat_part u c.args.depth n) name_part (codes " | ") (map pat_part_tree c.parts-parts.result.now) c.args.depth c.args.next _)

pub patterns::put_pat-put_pat_part-number-requires : goal.patterns::put_pat-put_pat_part-number-requires
patterns::put_pat-put_pat_part-number-requires t c =
    let w : weight (pat_part_tree c.index-parts-i.result) ≤ weights (trees (map pat_part_tree c.parts-parts.result.now)) = rw c.index-parts-i.is (weight-at pat_part_tree _ _ _ c.loop-i-test.true) in
    let o : IsOrdered (pat_part_tree c.index-parts-i.result) = rw c.index-parts-i.is (ordered-at pat_part_tree _ _ _ c.loop-i-test.true (subst IsNormal c.parts-parts.ensures.parts c.parts-parts.ensures.normal).1) in
    (omega (arith, w, ap weight c.parts-parts.ensures.parts), o)

pub patterns::put_pat-loop-i-preserved : goal.patterns::put_pat-loop-i-preserved
patterns::put_pat-loop-i-preserved t c = λ h.
    let q = c.put_pat_part-number.ensures h in
    let p = c.separate.ensures q.0 in
    let w = c.loop-i.invariant p.0 in
    (w.0, goes_on_from (λ u n. text_of pat_part u c.args.depth n) name_part (codes " | ") (map pat_part_tree c.parts-parts.result.now) c.loop-i.i c.loop-i.number _ c.args.depth c.args.next (pat_part_tree c.index-parts-i.result) _ _ _ _ w.1 (taken_of pat_part_tree c.parts-parts.result.now c.loop-i.i c.index-parts-i.result c.loop-i-test.true c.index-parts-i.is) p.1 q.1)

pub patterns::put_pat-returns : goal.patterns::put_pat-returns
patterns::put_pat-returns t c = λ h.
    let w = c.loop-i.invariant h in
    let k = c.word_if.ensures w.0 in (
      k.0,
      pattern-writes c.parts-parts.result.now c.args.pattern.now c.args.depth c.args.next _ _ _ _ c.parts-parts.ensures.parts
          (shown _ (ap (λ b. cond b (codes "Nil") []) (sym c.is_empty.ensures)) k.1)
          (at_end_from (λ u n. text_of pat_part u c.args.depth n) name_part (codes " | ") (map pat_part_tree c.parts-parts.result.now) c.loop-i.i c.loop-i.number c.args.depth c.args.next _ _ w.1 (none_left_of pat_part_tree c.parts-parts.result.now c.loop-i.i c.loop-i-test.false)),
    )

pub patterns::put_pat_operand-put_pat-after-requires : goal.patterns::put_pat_operand-put_pat-after-requires
patterns::put_pat_operand-put_pat-after-requires t c = (omega arith, tt)

pub patterns::put_pat_operand-returns : goal.patterns::put_pat_operand-returns
patterns::put_pat_operand-returns t c = λ h.
    let r = c.word_unless-2.ensures h in
    let q = c.put_pat-after.ensures r.0 in
    let p = c.word_unless.ensures q.0 in
    (p.0, pattern_operand-writes c.is_pattern_atom-bare.result c.args.pattern.now c.args.depth c.args.next _ _ _ _ _ c.is_pattern_atom-bare.ensures p.1 q.1 r.1)

pub patterns::put_name_pat-put_pat-requires : goal.patterns::put_name_pat-put_pat-requires
patterns::put_name_pat-put_pat-requires t c = (omega arith, tt)

pub patterns::put_name_pat-returns-then-is_bare : goal.patterns::put_name_pat-returns-then-is_bare
patterns::put_name_pat-returns-then-is_bare t c = λ h.
    let p = c.put_pat.ensures h in
    (p.0, name_pattern-bare c.is_bare.result c.args.pattern.now c.args.depth c.args.next _ _ _ c.is_bare.ensures c.if-is_bare.true p.1)

pub patterns::put_name_pat-put_pat_operand-requires : goal.patterns::put_name_pat-put_pat_operand-requires
patterns::put_name_pat-put_pat_operand-requires t c = (omega arith, tt)

pub patterns::put_name_pat-returns : goal.patterns::put_name_pat-returns
patterns::put_name_pat-returns t c = λ h.
    let q = c.put_pat_operand.ensures h in
    let p = c.word.ensures q.0 in
    (p.0, name_pattern-quoted c.is_bare.result c.args.pattern.now c.args.depth c.args.next _ _ _ _ c.is_bare.ensures c.if-is_bare.false p.1 q.1)

pub patterns::put_name_pats-loop-i-init : goal.patterns::put_name_pats-loop-i-init
patterns::put_name_pats-loop-i-init t c = λ h. (h, at_start_from (λ u n. text_of name_pat u c.args.depth n) name_pat (codes ", ") c.args.patterns.now c.args.depth c.args.next _)

pub patterns::put_name_pats-put_name_pat-number-requires : goal.patterns::put_name_pats-put_name_pat-number-requires
patterns::put_name_pats-put_name_pat-number-requires t c =
    let w : weight c.index-patterns-i.result ≤ weights (trees c.args.patterns.now) = rw c.index-patterns-i.is (tree-at _ _ _ c.loop-i-test.true) in
    (omega (arith, w), tt)

pub patterns::put_name_pats-loop-i-preserved : goal.patterns::put_name_pats-loop-i-preserved
patterns::put_name_pats-loop-i-preserved t c = λ h.
    let q = c.put_name_pat-number.ensures h in
    let p = c.separate.ensures q.0 in
    let w = c.loop-i.invariant p.0 in
    (w.0, goes_on_from (λ u n. text_of name_pat u c.args.depth n) name_pat (codes ", ") c.args.patterns.now c.loop-i.i c.loop-i.number _ c.args.depth c.args.next c.index-patterns-i.result _ _ _ _ w.1 (taken_at c.args.patterns.now c.loop-i.i c.index-patterns-i.result c.loop-i-test.true c.index-patterns-i.is) p.1 q.1)

pub patterns::put_name_pats-returns : goal.patterns::put_name_pats-returns
patterns::put_name_pats-returns t c = λ h.
    let w = c.loop-i.invariant h in
    (w.0, at_end_from (λ u n. text_of name_pat u c.args.depth n) name_pat (codes ", ") c.args.patterns.now c.loop-i.i c.loop-i.number c.args.depth c.args.next _ _ w.1 (none_left c.args.patterns.now c.loop-i.i c.loop-i-test.false))

pub patterns::put_pats-loop-i-init : goal.patterns::put_pats-loop-i-init
patterns::put_pats-loop-i-init t c = λ h. (h, at_start_from (λ u n. text_of pat u c.args.depth n) pat (codes ", ") c.args.patterns.now c.args.depth c.args.next _)

pub patterns::put_pats-put_pat-number-requires : goal.patterns::put_pats-put_pat-number-requires
patterns::put_pats-put_pat-number-requires t c =
    let w : weight c.index-patterns-i.result ≤ weights (trees c.args.patterns.now) = rw c.index-patterns-i.is (tree-at _ _ _ c.loop-i-test.true) in
    (omega (arith, w), tt)

pub patterns::put_pats-loop-i-preserved : goal.patterns::put_pats-loop-i-preserved
patterns::put_pats-loop-i-preserved t c = λ h.
    let q = c.put_pat-number.ensures h in
    let p = c.separate.ensures q.0 in
    let w = c.loop-i.invariant p.0 in
    (w.0, goes_on_from (λ u n. text_of pat u c.args.depth n) pat (codes ", ") c.args.patterns.now c.loop-i.i c.loop-i.number _ c.args.depth c.args.next c.index-patterns-i.result _ _ _ _ w.1 (taken_at c.args.patterns.now c.loop-i.i c.index-patterns-i.result c.loop-i-test.true c.index-patterns-i.is) p.1 (λ l f. q.1 l (pat_formed _ f)))

pub patterns::put_pats-returns : goal.patterns::put_pats-returns
patterns::put_pats-returns t c = λ h.
    let w = c.loop-i.invariant h in
    (w.0, at_end_from (λ u n. text_of pat u c.args.depth n) pat (codes ", ") c.args.patterns.now c.loop-i.i c.loop-i.number c.args.depth c.args.next _ _ w.1 (none_left c.args.patterns.now c.loop-i.i c.loop-i-test.false))

pub patterns::put_pat_pairs-loop-i-init : goal.patterns::put_pat_pairs-loop-i-init
patterns::put_pat_pairs-loop-i-init t c = λ h. (h, at_start_from (λ u n. text_of (pair_of pat) u c.args.depth n) (pair_of pat) (codes ", ") (map pair_tree c.args.pairs.now) c.args.depth c.args.next _)

pub patterns::put_pat_pairs-put_pat-middle-requires : goal.patterns::put_pat_pairs-put_pat-middle-requires
patterns::put_pat_pairs-put_pat-middle-requires t c =
    let w : weight (pair_tree c.index-pairs-i.result) ≤ weights (trees (map pair_tree c.args.pairs.now)) = rw c.index-pairs-i.is (weight-at pair_tree _ _ _ c.loop-i-test.true) in
    (omega (arith, w), tt)

pub patterns::put_pat_pairs-put_pat-number-requires : goal.patterns::put_pat_pairs-put_pat-number-requires
patterns::put_pat_pairs-put_pat-number-requires t c =
    let w : weight (pair_tree c.index-pairs-i.result) ≤ weights (trees (map pair_tree c.args.pairs.now)) = rw c.index-pairs-i.is (weight-at pair_tree _ _ _ c.loop-i-test.true) in
    (omega (arith, w), tt)

pub patterns::put_pat_pairs-loop-i-preserved : goal.patterns::put_pat_pairs-loop-i-preserved
patterns::put_pat_pairs-loop-i-preserved t c = λ h.
    let s = c.put_pat-number.ensures h in
    let r = c.word.ensures s.0 in
    let q = c.put_pat-middle.ensures r.0 in
    let p = c.separate.ensures q.0 in
    let w = c.loop-i.invariant p.0 in (
      w.0,
      goes_on_from (λ u n. text_of (pair_of pat) u c.args.depth n) (pair_of pat) (codes ", ") (map pair_tree c.args.pairs.now) c.loop-i.i c.loop-i.number _ c.args.depth c.args.next (pair_tree c.index-pairs-i.result) _ _ _ _ w.1 (taken_of pair_tree c.args.pairs.now c.loop-i.i c.index-pairs-i.result c.loop-i-test.true c.index-pairs-i.is) p.1
          (pair_pattern-writes c.index-pairs-i.result.0 c.index-pairs-i.result.1 c.args.depth c.loop-i.number _ _ _ _ _ _ q.1 r.1 s.1),
    )

pub patterns::put_pat_pairs-returns : goal.patterns::put_pat_pairs-returns
patterns::put_pat_pairs-returns t c = λ h.
    let w = c.loop-i.invariant h in
    (w.0, at_end_from (λ u n. text_of (pair_of pat) u c.args.depth n) (pair_of pat) (codes ", ") (map pair_tree c.args.pairs.now) c.loop-i.i c.loop-i.number c.args.depth c.args.next _ _ w.1 (none_left_of pair_tree c.args.pairs.now c.loop-i.i c.loop-i-test.false))

pub pattern_parts::put_pat_part-returns-in-Wild : goal.pattern_parts::put_pat_part-returns-in-Wild
pattern_parts::put_pat_part-returns-in-Wild t c = λ h.
    let p = c.word.ensures h in
    (p.0, same_pattern _ _ c.args.depth c.args.next _ _ _ (sym (ap pat_part_tree c.in-Wild.is)) (λ l f. (p.1, sym (nothing_more c.args.next))))

pub pattern_parts::put_pat_part-returns-in-Var : goal.pattern_parts::put_pat_part-returns-in-Var
pattern_parts::put_pat_part-returns-in-Var t c = λ h.
    let p = c.new_variable.ensures h in
    (p.0, same_pattern _ _ c.args.depth c.args.next _ _ _ (sym (ap pat_part_tree c.in-Var.is)) (λ l f. p.1))

pub pattern_parts::put_pat_part-returns-in-NameVar : goal.pattern_parts::put_pat_part-returns-in-NameVar
pattern_parts::put_pat_part-returns-in-NameVar t c = λ h.
    let p = c.new_variable-in-NameVar.ensures h in
    (p.0, same_pattern _ _ c.args.depth c.args.next _ _ _ (sym (ap pat_part_tree c.in-NameVar.is)) (λ l f. p.1))

pub pattern_parts::put_pat_part-returns-in-Simple : goal.pattern_parts::put_pat_part-returns-in-Simple
pattern_parts::put_pat_part-returns-in-Simple t c = λ h.
    let p = c.word-in-Simple.ensures h in
    (p.0, same_pattern _ _ c.args.depth c.args.next _ _ _ (sym (ap pat_part_tree c.in-Simple.is)) (λ l f. (shown _ (sym c.simple_word.ensures) p.1, sym (nothing_more c.args.next))))

pub pattern_parts::put_pat_part-put_term-requires : goal.pattern_parts::put_pat_part-put_term-requires
pattern_parts::put_pat_part-put_term-requires t c = (omega (arith, ap (λ q. weight (pat_part_tree q)) c.in-Same.is), tt)

pub pattern_parts::put_pat_part-returns-in-Same : goal.pattern_parts::put_pat_part-returns-in-Same
pattern_parts::put_pat_part-returns-in-Same t c = λ h.
    let r = c.word-in-Same-2.ensures h in
    let q = c.put_term.ensures r.0 in
    let p = c.word-in-Same.ensures q.0 in
    (p.0, same_pattern _ _ c.args.depth c.args.next _ _ _ (sym (ap pat_part_tree c.in-Same.is)) (same-writes c.in-Same.term c.args.depth c.args.next _ _ _ _ p.1 q.1 r.1))

pub pattern_parts::put_pat_part-returns-in-Ground : goal.pattern_parts::put_pat_part-returns-in-Ground
pattern_parts::put_pat_part-returns-in-Ground t c = λ h.
    let p = c.ground.ensures h in
    (p.0, same_pattern _ _ c.args.depth c.args.next _ _ _ (sym (ap pat_part_tree c.in-Ground.is)) (ground-writes c.in-Ground.value c.args.depth c.args.next _ _ p.1))

pub pattern_parts::put_pat_part-put_joined-requires : goal.pattern_parts::put_pat_part-put_joined-requires
pattern_parts::put_pat_part-put_joined-requires t c = (omega (arith, ap (λ q. weight (pat_part_tree q)) c.in-Both.is), tt)

pub pattern_parts::put_pat_part-returns-in-Both : goal.pattern_parts::put_pat_part-returns-in-Both
pattern_parts::put_pat_part-returns-in-Both t c = λ h.
    let p = c.put_joined.ensures h in
    (p.0, same_pattern _ _ c.args.depth c.args.next _ _ _ (sym (ap pat_part_tree c.in-Both.is)) (both-writes c.in-Both.left c.in-Both.right c.args.depth c.args.next _ _ _ p.1))

pub pattern_parts::put_pat_part-put_joined-requires-in-Either : goal.pattern_parts::put_pat_part-put_joined-requires-in-Either
pattern_parts::put_pat_part-put_joined-requires-in-Either t c = (omega (arith, ap (λ q. weight (pat_part_tree q)) c.in-Either.is), tt)

pub pattern_parts::put_pat_part-returns-in-Either : goal.pattern_parts::put_pat_part-returns-in-Either
pattern_parts::put_pat_part-returns-in-Either t c = λ h.
    let p = c.put_joined-in-Either.ensures h in
    (p.0, same_pattern _ _ c.args.depth c.args.next _ _ _ (sym (ap pat_part_tree c.in-Either.is)) (either-writes c.in-Either.left c.in-Either.right c.args.depth c.args.next _ _ _ p.1))

pub pattern_parts::put_pat_part-put_pat_operand-requires : goal.pattern_parts::put_pat_part-put_pat_operand-requires
pattern_parts::put_pat_part-put_pat_operand-requires t c = (omega (arith, ap (λ q. weight (pat_part_tree q)) c.in-Not.is), tt)

pub pattern_parts::put_pat_part-returns-in-Not : goal.pattern_parts::put_pat_part-returns-in-Not
pattern_parts::put_pat_part-returns-in-Not t c = λ h.
    let q = c.put_pat_operand.ensures h in
    let p = c.word-in-Not.ensures q.0 in
    (p.0, same_pattern _ _ c.args.depth c.args.next _ _ _ (sym (ap pat_part_tree c.in-Not.is)) (not_this-writes c.in-Not.inner c.args.depth c.args.next _ _ _ _ p.1 q.1))

pub pattern_parts::put_pat_part-put_pats-middle-requires : goal.pattern_parts::put_pat_part-put_pats-middle-requires
pattern_parts::put_pat_part-put_pats-middle-requires t c = (omega (arith, ap (λ q. weight (pat_part_tree q)) c.in-List.is, ap (λ us. weights (trees us)) c.deref.ensures.value), tt)

pub pattern_parts::put_pat_part-returns-in-List : goal.pattern_parts::put_pat_part-returns-in-List
pattern_parts::put_pat_part-returns-in-List t c = λ h.
    let s = c.word-in-List-2.ensures h in
    let r = c.rest-after.ensures s.0 in
    let q = c.put_pats-middle.ensures r.0 in
    let p = c.word-in-List.ensures q.0 in
    let e = ap (λ us. two list_pattern (many row us) (leaf (rest c.in-List.rest))) c.deref.ensures.value ∙ sym (ap pat_part_tree c.in-List.is) in
    let l : c.len.result ≡ length c.deref.result.now = omega (arith, ap length c.deref.ensures.value) in
    (p.0, same_pattern _ _ c.args.depth c.args.next _ _ _ e (list_pattern-writes c.deref.result.now c.in-List.rest c.args.depth c.args.next _ _ _ (members-writes pat _ c.deref.result.now c.in-List.rest _ c.args.depth c.args.next _ _ _ _ _ _ _ _ p.1 q.1 l r.1 s.1)))

pub pattern_parts::put_pat_part-put_pats-after-requires : goal.pattern_parts::put_pat_part-put_pats-after-requires
pattern_parts::put_pat_part-put_pats-after-requires t c = (omega (arith, ap (λ q. weight (pat_part_tree q)) c.in-Tuple.is, ap (λ us. weights (trees us)) c.deref-in-Tuple.ensures.value), tt)

pub pattern_parts::put_pat_part-returns-in-Tuple : goal.pattern_parts::put_pat_part-returns-in-Tuple
pattern_parts::put_pat_part-returns-in-Tuple t c = λ h.
    let r = c.word-in-Tuple-2.ensures h in
    let q = c.put_pats-after.ensures r.0 in
    let p = c.word-in-Tuple.ensures q.0 in
    let e = ap (λ us. many tuple us) c.deref-in-Tuple.ensures.value ∙ sym (ap pat_part_tree c.in-Tuple.is) in
    let l : c.len-in-Tuple.result ≡ length c.deref-in-Tuple.result.now = omega (arith, ap length c.deref-in-Tuple.ensures.value) in
    (p.0, same_pattern _ _ c.args.depth c.args.next _ _ _ e (tuple_pattern-writes c.deref-in-Tuple.result.now c.args.depth c.args.next _ _ _ _ _ _ (c.tuple_end.ensures ∙ ap (λ k. cond (eqb k 1) (codes ",)") (codes ")")) l) p.1 q.1 r.1))

pub pattern_parts::put_pat_part-put_pats-middle-requires-in-Set : goal.pattern_parts::put_pat_part-put_pats-middle-requires-in-Set
pattern_parts::put_pat_part-put_pats-middle-requires-in-Set t c = (omega (arith, ap (λ q. weight (pat_part_tree q)) c.in-Set.is, ap (λ us. weights (trees us)) c.deref-in-Set.ensures.value), tt)

pub pattern_parts::put_pat_part-returns-in-Set : goal.pattern_parts::put_pat_part-returns-in-Set
pattern_parts::put_pat_part-returns-in-Set t c = λ h.
    let s = c.word-in-Set-2.ensures h in
    let r = c.rest-after-in-Set.ensures s.0 in
    let q = c.put_pats-middle-in-Set.ensures r.0 in
    let p = c.word-in-Set.ensures q.0 in
    let e = ap (λ us. two set_pattern (many row us) (leaf (rest c.in-Set.rest))) c.deref-in-Set.ensures.value ∙ sym (ap pat_part_tree c.in-Set.is) in
    let l : c.len-in-Set.result ≡ length c.deref-in-Set.result.now = omega (arith, ap length c.deref-in-Set.ensures.value) in
    (p.0, same_pattern _ _ c.args.depth c.args.next _ _ _ e (set_pattern-writes c.deref-in-Set.result.now c.in-Set.rest c.args.depth c.args.next _ _ _ (members-writes pat _ c.deref-in-Set.result.now c.in-Set.rest _ c.args.depth c.args.next _ _ _ _ _ _ _ _ p.1 q.1 l r.1 s.1)))

pub pattern_parts::put_pat_part-put_pat_pairs-middle-requires : goal.pattern_parts::put_pat_part-put_pat_pairs-middle-requires
pattern_parts::put_pat_part-put_pat_pairs-middle-requires t c = (omega (arith, ap (λ q. weight (pat_part_tree q)) c.in-Map.is, ap (λ us. weights (trees (map pair_tree us))) c.deref-in-Map.ensures.value), tt)

pub pattern_parts::put_pat_part-returns-in-Map : goal.pattern_parts::put_pat_part-returns-in-Map
pattern_parts::put_pat_part-returns-in-Map t c = λ h.
    let s = c.word-in-Map-2.ensures h in
    let r = c.rest-after-in-Map.ensures s.0 in
    let q = c.put_pat_pairs-middle.ensures r.0 in
    let p = c.word-in-Map.ensures q.0 in
    let e = ap (λ us. two map_pattern (many row (map pair_tree us)) (leaf (rest c.in-Map.rest))) c.deref-in-Map.ensures.value ∙ sym (ap pat_part_tree c.in-Map.is) in
    let l : c.len-in-Map.result ≡ length (map pair_tree c.deref-in-Map.result.now) = omega (arith, ap length c.deref-in-Map.ensures.value, length-map c.deref-in-Map.result.now pair_tree) in
    (p.0, same_pattern _ _ c.args.depth c.args.next _ _ _ e (map_pattern-writes (map pair_tree c.deref-in-Map.result.now) c.in-Map.rest c.args.depth c.args.next _ _ _ (members-writes (pair_of pat) _ (map pair_tree c.deref-in-Map.result.now) c.in-Map.rest _ c.args.depth c.args.next _ _ _ _ _ _ _ _ p.1 q.1 l r.1 s.1)))

pub pattern_parts::put_pat_part-put_name_pat-middle-requires : goal.pattern_parts::put_pat_part-put_name_pat-middle-requires
pattern_parts::put_pat_part-put_name_pat-middle-requires t c = (omega (arith, ap (λ q. weight (pat_part_tree q)) c.in-Send.is), tt)

pub pattern_parts::put_pat_part-put_pats-after-requires-in-Send : goal.pattern_parts::put_pat_part-put_pats-after-requires-in-Send
pattern_parts::put_pat_part-put_pats-after-requires-in-Send t c = (omega (arith, ap (λ q. weight (pat_part_tree q)) c.in-Send.is, ap (λ us. weights (trees us)) c.deref-in-Send.ensures.value), tt)

pub pattern_parts::put_pat_part-returns-in-Send : goal.pattern_parts::put_pat_part-returns-in-Send
pattern_parts::put_pat_part-returns-in-Send t c = λ h.
    let s = c.word-in-Send-2.ensures h in
    let r = c.put_pats-after-in-Send.ensures s.0 in
    let q = c.word-in-Send.ensures r.0 in
    let p = c.put_name_pat-middle.ensures q.0 in
    let e = ap (λ us. two (send c.in-Send.persistent) c.in-Send.channel (many row us)) c.deref-in-Send.ensures.value ∙ sym (ap pat_part_tree c.in-Send.is) in
    (p.0, same_pattern _ _ c.args.depth c.args.next _ _ _ e (pattern_send-writes c.in-Send.persistent c.in-Send.channel c.deref-in-Send.result.now c.args.depth c.args.next _ _ _ _ _ _ _ p.1 (shown _ (sym c.send_marks.ensures) q.1) r.1 s.1))

pub pattern_parts::put_pat_part-put_pat-after-requires : goal.pattern_parts::put_pat_part-put_pat-after-requires
pattern_parts::put_pat_part-put_pat-after-requires t c = (omega (arith, ap (λ q. weight (pat_part_tree q)) c.in-Bundle.is), tt)

pub pattern_parts::put_pat_part-returns-in-Bundle : goal.pattern_parts::put_pat_part-returns-in-Bundle
pattern_parts::put_pat_part-returns-in-Bundle t c = λ h.
    let s = c.word-in-Bundle-3.ensures h in
    let r = c.put_pat-after.ensures s.0 in
    let q = c.word-in-Bundle-2.ensures r.0 in
    let p = c.word-in-Bundle.ensures q.0 in
    (p.0, same_pattern _ _ c.args.depth c.args.next _ _ _ (sym (ap pat_part_tree c.in-Bundle.is)) (pattern_bundle-writes c.in-Bundle.rights c.in-Bundle.body c.args.depth c.args.next _ _ _ _ _ _ (shown _ (sym c.rights_word.ensures) p.1) q.1 r.1 s.1))

pub pattern_parts::put_pat_part-put_part-requires : goal.pattern_parts::put_pat_part-put_part-requires
pattern_parts::put_pat_part-put_part-requires t c = (omega (arith, ap (λ q. weight (pat_part_tree q)) c.in-Closed.is), subst (λ q. IsOrdered (pat_part_tree q)) c.in-Closed.is c.requires)

pub pattern_parts::put_pat_part-returns-in-Closed : goal.pattern_parts::put_pat_part-returns-in-Closed
pattern_parts::put_pat_part-returns-in-Closed t c = λ h.
    let p = c.put_part.ensures h in
    (p.0, same_pattern _ _ c.args.depth c.args.next _ _ _ (sym (ap pat_part_tree c.in-Closed.is)) (closed-writes c.in-Closed.closed c.args.depth c.args.next _ _ c.look_inside.ensures p.1))

pub pattern_parts::put_joined-put_pat_operand-middle-requires : goal.pattern_parts::put_joined-put_pat_operand-middle-requires
pattern_parts::put_joined-put_pat_operand-middle-requires t c = (omega arith, tt)

pub pattern_parts::put_joined-put_pat_operand-after-requires : goal.pattern_parts::put_joined-put_pat_operand-after-requires
pattern_parts::put_joined-put_pat_operand-after-requires t c = (omega arith, tt)

pub pattern_parts::put_joined-returns : goal.pattern_parts::put_joined-returns
pattern_parts::put_joined-returns t c = λ h.
    let s = c.word-3.ensures h in
    let r = c.put_pat_operand-after.ensures s.0 in
    let q = c.word-2.ensures r.0 in
    let w = c.put_pat_operand-middle.ensures q.0 in
    let p = c.word.ensures w.0 in
    (p.0, joined-writes c.args.left.now c.args.right.now c.args.sign.now c.args.depth c.args.next _ _ _ _ _ _ _ _ p.1 w.1 q.1 r.1 s.1)
