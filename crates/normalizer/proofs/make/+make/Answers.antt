use Rattle.std.proofs.Common.{◌∙◌, map, ap, rules}
use Rattle.calculus.specs.Bare.{all_names, names}
use Rattle.calculus.specs.Meaning.{declared, proc_written, name_written, pat_written, name_pat_written, bind_written, case_written}
use Rattle.calculus.specs.Written.{writtens}
use Rattle.rho_term.specs.Parts.{part_tree, pat_part_tree, pair_tree, bind_tree, case_tree}
use Rattle.open_processes.specs.Pairs.{proc_pair, pat_pair}
use Rattle.normal_parts.specs.InScope.{within}
use Rattle.normal_parts.proofs.Calls.{term-made, pat-made, pat-ordered, still-bound, left-again}
use Rattle.normal_parts.proofs.Levels.{proc-par, name-par, pat-pattern, name-pat-pattern}
use Rattle.normalizer.proofs.Around.{of-pair, of-bind, of-case}
use Rattle.normalizer.proofs.Processes as process
use Rattle.normalizer.proofs.Patterns as pattern
use Rattle.normalizer.proofs.Turns.{next-one, no-more, added, joined, alone, turn-tree, turn-thing, turn-parts, turn-pattern-parts, end-trees, end-parts, end-pattern-parts}
use Rattle.normalizer.proofs.make.+make.Goals as goal

pub make_term-returns : goal.make_term-returns
make_term-returns t c = λ h.
    let k = c.process.ensures h in
    let m = c.add_parts.ensures k.0 in
    let v = c.args.maker.now.scope in
    (m.0, k.1 ∙ m.1, k.2 ∙ term-made _ (proc_written c.args.p.now) v (proc-par c.args.p.now v) (alone part_tree c.new-parts.result.items _ _ (search rules) m.2))

pub make_name-returns : goal.make_name-returns
make_name-returns t c = λ h.
    let k = c.process.ensures h in
    let m = c.add_name_parts.ensures k.0 in
    let v = c.args.maker.now.scope in
    (m.0, k.1 ∙ m.1, k.2 ∙ term-made _ (name_written c.args.n.now) v (name-par c.args.n.now v) (alone part_tree c.new-parts.result.items _ _ (search rules) m.2))

pub make_pat-pattern-requires : goal.make_pat-pattern-requires
make_pat-pattern-requires t c = λ h.
    let m = c.add_pat_parts.ensures h in
    pat-ordered _ (pat_written c.args.p.now) c.args.maker.now.scope (alone pat_part_tree c.new-parts.result.items _ _ (search rules) m.2)

pub make_pat-returns : goal.make_pat-returns
make_pat-returns t c = λ h.
    let m = c.add_pat_parts.ensures h in
    let v = c.args.maker.now.scope in
    (m.0, m.1, c.pattern.ensures h ∙ pat-made _ (pat_written c.args.p.now) v (pat-pattern c.args.p.now v) (alone pat_part_tree c.new-parts.result.items _ _ (search rules) m.2))

pub make_name_pat-pattern-requires : goal.make_name_pat-pattern-requires
make_name_pat-pattern-requires t c = λ h.
    let m = c.add_name_pat_parts.ensures h in
    pat-ordered _ (name_pat_written c.args.p.now) c.args.maker.now.scope (alone pat_part_tree c.new-parts.result.items _ _ (search rules) m.2)

pub make_name_pat-returns : goal.make_name_pat-returns
make_name_pat-returns t c = λ h.
    let m = c.add_name_pat_parts.ensures h in
    let v = c.args.maker.now.scope in
    (m.0, m.1, c.pattern.ensures h ∙ pat-made _ (name_pat_written c.args.p.now) v (name-pat-pattern c.args.p.now v) (alone pat_part_tree c.new-parts.result.items _ _ (search rules) m.2))

pub add_name_parts-returns-in-Var : goal.add_name_parts-returns-in-Var
add_name_parts-returns-in-Var t c = λ h.
    let k = c.add.ensures h in
    (k.0, k.1, added part_tree _ _ _ _ k.2 (process.of-name _ _ _ _ c.in-Var.is c.index-index.ensures))

pub add_name_parts-returns-in-Fresh : goal.add_name_parts-returns-in-Fresh
add_name_parts-returns-in-Fresh t c = λ h.
    let k = c.add-in-Fresh.ensures h in
    (k.0, k.1, added part_tree _ _ _ _ k.2 (process.of-fresh _ _ _ c.in-Fresh.is))

pub add_name_parts-returns-in-Quote : goal.add_name_parts-returns-in-Quote
add_name_parts-returns-in-Quote t c = λ h.
    let m = c.add_parts.ensures h in
    (m.0, m.1, joined _ _ _ _ m.2 (process.of-quote _ _ _ _ c.in-Quote.is c.deref.ensures))

pub add_name_pat_parts-returns-in-Wild : goal.add_name_pat_parts-returns-in-Wild
add_name_pat_parts-returns-in-Wild t c = λ h.
    let k = c.add.ensures h in
    (k.0, k.1, added pat_part_tree _ _ _ _ k.2 (pattern.of-any-name _ _ c.in-Wild.is))

pub add_name_pat_parts-returns-in-Var : goal.add_name_pat_parts-returns-in-Var
add_name_pat_parts-returns-in-Var t c = λ h.
    let k = c.add-in-Var.ensures h in
    (k.0, k.1, added pat_part_tree _ _ _ _ k.2 (pattern.of-name _ _ _ c.in-Var.is))

pub add_name_pat_parts-returns-in-Quote : goal.add_name_pat_parts-returns-in-Quote
add_name_pat_parts-returns-in-Quote t c = λ h.
    let m = c.add_pat_parts.ensures h in
    (m.0, m.1, joined _ _ _ _ m.2 (pattern.of-quote _ _ _ _ c.in-Quote.is c.deref.ensures))

pub add_parts-returns-in-Par : goal.add_parts-returns-in-Par
add_parts-returns-in-Par t c = λ h.
    let m = c.add_all_parts.ensures h in
    (m.0, m.1, joined _ _ _ _ m.2 (process.of-par _ _ _ c.in-Par.is))

pub add_parts-returns-in-Ground : goal.add_parts-returns-in-Ground
add_parts-returns-in-Ground t c = λ h.
    let k = c.add.ensures h in
    let m = c.ground-value.ensures k.0 in
    (m.0, k.1 ∙ m.1, added part_tree _ _ _ _ k.2 (process.of-ground _ _ _ _ c.in-Ground.is m.2))

pub add_parts-returns-in-Var : goal.add_parts-returns-in-Var
add_parts-returns-in-Var t c = λ h.
    let k = c.add-in-Var.ensures h in
    (k.0, k.1, added part_tree _ _ _ _ k.2 (process.of-variable _ _ _ _ c.in-Var.is c.index-index.ensures))

pub add_parts-returns-in-Drop : goal.add_parts-returns-in-Drop
add_parts-returns-in-Drop t c = λ h.
    let m = c.add_name_parts.ensures h in
    (m.0, m.1, joined _ _ _ _ m.2 (process.of-drop _ _ _ c.in-Drop.is))

pub add_parts-returns-in-List : goal.add_parts-returns-in-List
add_parts-returns-in-List t c = λ h.
    let k = c.add-in-List.ensures h in
    let m = c.make_terms-members.ensures k.0 in
    (m.0, k.1 ∙ m.1, added part_tree _ _ _ _ k.2 (process.of-list _ _ _ _ c.in-List.is m.2))

pub add_parts-returns-in-Tuple : goal.add_parts-returns-in-Tuple
add_parts-returns-in-Tuple t c = λ h.
    let k = c.add-in-Tuple.ensures h in
    let m = c.make_terms-members-in-Tuple.ensures k.0 in
    (m.0, k.1 ∙ m.1, added part_tree _ _ _ _ k.2 (process.of-tuple _ _ _ _ c.in-Tuple.is m.2))

pub add_parts-returns-in-Set : goal.add_parts-returns-in-Set
add_parts-returns-in-Set t c = λ h.
    let k = c.add-in-Set.ensures h in
    let m = c.make_terms-members-in-Set.ensures k.0 in
    (m.0, k.1 ∙ m.1, added part_tree _ _ _ _ k.2 (process.of-set _ _ _ _ c.in-Set.is m.2))

pub add_parts-returns-in-Map : goal.add_parts-returns-in-Map
add_parts-returns-in-Map t c = λ h.
    let k = c.add-in-Map.ensures h in
    let m = c.make_pairs-pairs.ensures k.0 in
    (m.0, k.1 ∙ m.1, added part_tree _ _ _ _ k.2 (process.of-map _ _ _ _ c.in-Map.is m.2))

pub add_parts-returns-in-Send : goal.add_parts-returns-in-Send
add_parts-returns-in-Send t c = λ h.
    let k = c.add-in-Send.ensures h in
    let b = c.make_terms-args.ensures k.0 in
    let a = c.make_name-channel.ensures b.0 in
    (a.0, k.1 ∙ b.1 ∙ a.1, added part_tree _ _ _ _ k.2 (process.of-send _ _ _ _ _ _ _ _ c.in-Send.is a.1 a.2 b.2))

pub add_parts-leave-requires : goal.add_parts-leave-requires
add_parts-leave-requires t c = λ h.
    let m = c.make_term-body.ensures h in
    let b = c.bind_binds.ensures m.0 in
    let a = c.make_binds-made.ensures b.0 in
    let xs = all_names (writtens (map bind_written c.in-Receive.binds.items)) in
    still-bound xs c.args.maker.now.scope c.make_term-body.new.maker.scope c.depth-outside.result c.depth-outside.ensures (m.1 ∙ b.1 ∙ ap (within xs) a.1)

pub add_parts-returns-in-Receive : goal.add_parts-returns-in-Receive
add_parts-returns-in-Receive t c = λ h.
    let k = c.add-in-Receive.ensures h in
    let l = c.leave.ensures k.0 in
    let m = c.make_term-body.ensures l.0 in
    let b = c.bind_binds.ensures m.0 in
    let a = c.make_binds-made.ensures b.0 in
    let xs = all_names (writtens (map bind_written c.in-Receive.binds.items)) in
    let s = left-again xs c.args.maker.now.scope c.make_term-body.new.maker.scope c.depth-outside.result c.depth-outside.ensures (m.1 ∙ b.1 ∙ ap (within xs) a.1) in
    (a.0, k.1 ∙ l.1 ∙ s, added part_tree _ _ _ _ k.2 (process.of-receive _ _ _ _ _ _ _ _ _ _ c.in-Receive.is c.deref.ensures a.1 b.1 a.2 m.2))

pub add_parts-leave-requires-in-New : goal.add_parts-leave-requires-in-New
add_parts-leave-requires-in-New t c = λ h.
    let m = c.make_term-body-in-New.ensures h in
    let b = c.bind_declared.ensures m.0 in
    still-bound (map (λ d. d.0) (map declared c.in-New.names.items)) c.args.maker.now.scope c.make_term-body-in-New.new.maker.scope c.depth-outside-in-New.result c.depth-outside-in-New.ensures (m.1 ∙ b.1)

pub add_parts-returns-in-New : goal.add_parts-returns-in-New
add_parts-returns-in-New t c = λ h.
    let k = c.add-in-New.ensures h in
    let o = c.origins-names.ensures k.0 in
    let l = c.leave-in-New.ensures o.0 in
    let m = c.make_term-body-in-New.ensures l.0 in
    let b = c.bind_declared.ensures m.0 in
    let s = left-again (map (λ d. d.0) (map declared c.in-New.names.items)) c.args.maker.now.scope c.make_term-body-in-New.new.maker.scope c.depth-outside-in-New.result c.depth-outside-in-New.ensures (m.1 ∙ b.1) in
    (b.0, k.1 ∙ o.1 ∙ l.1 ∙ s, added part_tree _ _ _ _ k.2 (process.of-new _ _ _ _ _ _ _ _ c.in-New.is c.deref-in-New.ensures b.1 o.2 m.2))

pub add_parts-returns-in-Match : goal.add_parts-returns-in-Match
add_parts-returns-in-Match t c = λ h.
    let k = c.add-in-Match.ensures h in
    let b = c.make_cases-cases.ensures k.0 in
    let a = c.make_term-target.ensures b.0 in
    (a.0, k.1 ∙ b.1 ∙ a.1, added part_tree _ _ _ _ k.2 (process.of-match _ _ _ _ _ _ _ _ c.in-Match.is c.deref-in-Match.ensures a.1 a.2 b.2))

pub add_parts-returns-in-Bundle : goal.add_parts-returns-in-Bundle
add_parts-returns-in-Bundle t c = λ h.
    let k = c.add-in-Bundle.ensures h in
    let m = c.make_term-body-in-Bundle.ensures k.0 in
    (m.0, k.1 ∙ m.1, added part_tree _ _ _ _ k.2 (process.of-bundle _ _ _ _ _ _ c.in-Bundle.is c.deref-in-Bundle.ensures m.2))

pub add_parts-returns-in-Unary : goal.add_parts-returns-in-Unary
add_parts-returns-in-Unary t c = λ h.
    let k = c.add-in-Unary.ensures h in
    let m = c.make_term-arg.ensures k.0 in
    (m.0, k.1 ∙ m.1, added part_tree _ _ _ _ k.2 (process.of-unary _ _ _ _ _ _ c.in-Unary.is c.deref-in-Unary.ensures m.2))

pub add_parts-returns-in-Binary : goal.add_parts-returns-in-Binary
add_parts-returns-in-Binary t c = λ h.
    let k = c.add-in-Binary.ensures h in
    let b = c.make_term-right.ensures k.0 in
    let a = c.make_term-left.ensures b.0 in
    (a.0, k.1 ∙ b.1 ∙ a.1, added part_tree _ _ _ _ k.2 (process.of-binary _ _ _ _ _ _ _ _ _ _ c.in-Binary.is c.deref-in-Binary.ensures c.deref-in-Binary-2.ensures a.1 a.2 b.2))

pub add_parts-returns-in-Method : goal.add_parts-returns-in-Method
add_parts-returns-in-Method t c = λ h.
    let k = c.add-in-Method.ensures h in
    let n = c.text-name.ensures k.0 in
    let b = c.make_terms-args-in-Method.ensures n.0 in
    let a = c.make_term-target-in-Method.ensures b.0 in
    (a.0, k.1 ∙ n.1 ∙ b.1 ∙ a.1, added part_tree _ _ _ _ k.2 (process.of-method _ _ _ _ _ _ _ _ _ _ c.in-Method.is c.deref-in-Method.ensures a.1 n.2 a.2 b.2))

pub add_pat_parts-returns-in-Par : goal.add_pat_parts-returns-in-Par
add_pat_parts-returns-in-Par t c = λ h.
    let m = c.add_all_pat_parts.ensures h in
    (m.0, m.1, joined _ _ _ _ m.2 (pattern.of-par _ _ _ c.in-Par.is))

pub add_pat_parts-returns-in-Wild : goal.add_pat_parts-returns-in-Wild
add_pat_parts-returns-in-Wild t c = λ h.
    let k = c.add.ensures h in
    (k.0, k.1, added pat_part_tree _ _ _ _ k.2 (pattern.of-any _ _ c.in-Wild.is))

pub add_pat_parts-returns-in-Var : goal.add_pat_parts-returns-in-Var
add_pat_parts-returns-in-Var t c = λ h.
    let k = c.add-in-Var.ensures h in
    (k.0, k.1, added pat_part_tree _ _ _ _ k.2 (pattern.of-variable _ _ _ c.in-Var.is))

pub add_pat_parts-returns-in-Simple : goal.add_pat_parts-returns-in-Simple
add_pat_parts-returns-in-Simple t c = λ h.
    let k = c.add-in-Simple.ensures h in
    (k.0, k.1, added pat_part_tree _ _ _ _ k.2 (pattern.of-simple _ _ _ c.in-Simple.is))

pub add_pat_parts-returns-in-Same : goal.add_pat_parts-returns-in-Same
add_pat_parts-returns-in-Same t c = λ h.
    let k = c.add-in-Same.ensures h in
    let m = c.make_term-process.ensures k.0 in
    (m.0, k.1 ∙ m.1, added pat_part_tree _ _ _ _ k.2 (pattern.of-same _ _ _ _ _ c.in-Same.is c.deref.ensures m.2))

pub add_pat_parts-returns-in-Ground : goal.add_pat_parts-returns-in-Ground
add_pat_parts-returns-in-Ground t c = λ h.
    let k = c.add-in-Ground.ensures h in
    let m = c.ground-value.ensures k.0 in
    (m.0, k.1 ∙ m.1, added pat_part_tree _ _ _ _ k.2 (pattern.of-ground _ _ _ _ c.in-Ground.is m.2))

pub add_pat_parts-returns-in-Both : goal.add_pat_parts-returns-in-Both
add_pat_parts-returns-in-Both t c = λ h.
    let k = c.add-in-Both.ensures h in
    let b = c.make_pat-right.ensures k.0 in
    let a = c.make_pat-left.ensures b.0 in
    (a.0, k.1 ∙ b.1 ∙ a.1, added pat_part_tree _ _ _ _ k.2 (pattern.of-both _ _ _ _ _ _ _ _ _ c.in-Both.is c.deref-in-Both.ensures c.deref-in-Both-2.ensures a.1 a.2 b.2))

pub add_pat_parts-returns-in-Either : goal.add_pat_parts-returns-in-Either
add_pat_parts-returns-in-Either t c = λ h.
    let k = c.add-in-Either.ensures h in
    let b = c.make_pat-right-in-Either.ensures k.0 in
    let a = c.make_pat-left-in-Either.ensures b.0 in
    (a.0, k.1 ∙ b.1 ∙ a.1, added pat_part_tree _ _ _ _ k.2 (pattern.of-either _ _ _ _ _ _ _ _ _ c.in-Either.is c.deref-in-Either.ensures c.deref-in-Either-2.ensures a.1 a.2 b.2))

pub add_pat_parts-returns-in-Not : goal.add_pat_parts-returns-in-Not
add_pat_parts-returns-in-Not t c = λ h.
    let k = c.add-in-Not.ensures h in
    let m = c.make_pat-pat.ensures k.0 in
    (m.0, k.1 ∙ m.1, added pat_part_tree _ _ _ _ k.2 (pattern.of-not _ _ _ _ _ c.in-Not.is c.deref-in-Not.ensures m.2))

pub add_pat_parts-returns-in-List : goal.add_pat_parts-returns-in-List
add_pat_parts-returns-in-List t c = λ h.
    let k = c.add-in-List.ensures h in
    let m = c.make_pats-members.ensures k.0 in
    (m.0, k.1 ∙ m.1, added pat_part_tree _ _ _ _ k.2 (pattern.of-list _ _ _ _ _ _ c.in-List.is c.rest_of.ensures m.2))

pub add_pat_parts-returns-in-Tuple : goal.add_pat_parts-returns-in-Tuple
add_pat_parts-returns-in-Tuple t c = λ h.
    let k = c.add-in-Tuple.ensures h in
    let m = c.make_pats-members-in-Tuple.ensures k.0 in
    (m.0, k.1 ∙ m.1, added pat_part_tree _ _ _ _ k.2 (pattern.of-tuple _ _ _ _ c.in-Tuple.is m.2))

pub add_pat_parts-returns-in-Set : goal.add_pat_parts-returns-in-Set
add_pat_parts-returns-in-Set t c = λ h.
    let k = c.add-in-Set.ensures h in
    let m = c.make_pats-members-in-Set.ensures k.0 in
    (m.0, k.1 ∙ m.1, added pat_part_tree _ _ _ _ k.2 (pattern.of-set _ _ _ _ _ _ c.in-Set.is c.rest_of-in-Set.ensures m.2))

pub add_pat_parts-returns-in-Map : goal.add_pat_parts-returns-in-Map
add_pat_parts-returns-in-Map t c = λ h.
    let k = c.add-in-Map.ensures h in
    let m = c.make_pat_pairs-pairs.ensures k.0 in
    (m.0, k.1 ∙ m.1, added pat_part_tree _ _ _ _ k.2 (pattern.of-map _ _ _ _ _ _ c.in-Map.is c.rest_of-in-Map.ensures m.2))

pub add_pat_parts-returns-in-Send : goal.add_pat_parts-returns-in-Send
add_pat_parts-returns-in-Send t c = λ h.
    let k = c.add-in-Send.ensures h in
    let b = c.make_pats-args.ensures k.0 in
    let a = c.make_name_pat-channel.ensures b.0 in
    (a.0, k.1 ∙ b.1 ∙ a.1, added pat_part_tree _ _ _ _ k.2 (pattern.of-send _ _ _ _ _ _ _ _ c.in-Send.is a.1 a.2 b.2))

pub add_pat_parts-returns-in-Bundle : goal.add_pat_parts-returns-in-Bundle
add_pat_parts-returns-in-Bundle t c = λ h.
    let k = c.add-in-Bundle.ensures h in
    let m = c.make_pat-body.ensures k.0 in
    (m.0, k.1 ∙ m.1, added pat_part_tree _ _ _ _ k.2 (pattern.of-bundle _ _ _ _ _ _ c.in-Bundle.is c.deref-in-Bundle.ensures m.2))

pub add_pat_parts-returns-in-Closed : goal.add_pat_parts-returns-in-Closed
add_pat_parts-returns-in-Closed t c = λ h.
    let k = c.add_closed.ensures h in
    let m = c.add_parts.ensures k.0 in
    (m.0, k.1 ∙ m.1, joined _ _ _ _ k.2 (pattern.of-closed _ _ _ _ c.new-forms.result.items _ c.in-Closed.is c.deref-in-Closed.ensures (search rules) m.2))

pub add_all_parts-loop-p-preserved : goal.add_all_parts-loop-p-preserved
add_all_parts-loop-p-preserved t c = λ h.
    let m = c.add_parts.ensures h in
    let n = c.loop-p.invariant m.0 in
    let o = next-one c.args.ps.now.items c.deref-p-items.result.now c.loop-p.p-index c.p-item.result c.deref-p-items.ensures.value c.loop-p-test.true c.p-item.is in
    (n.0, m.1 ∙ n.1, turn-parts proc_written c.args.ps.now.items c.loop-p.p-index c.args.maker.now.scope c.loop-p.maker.scope _ _ _ _ o n.1 m.2 n.2)

pub add_all_parts-returns : goal.add_all_parts-returns
add_all_parts-returns t c = λ h.
    let n = c.loop-p.invariant h in
    (n.0, n.1, end-parts proc_written c.args.ps.now.items c.loop-p.p-index c.args.maker.now.scope _ _ (no-more c.args.ps.now.items c.deref-p-items.result.now c.loop-p.p-index c.deref-p-items.ensures.value c.loop-p-test.false) n.2)

pub add_all_pat_parts-loop-p-preserved : goal.add_all_pat_parts-loop-p-preserved
add_all_pat_parts-loop-p-preserved t c = λ h.
    let m = c.add_pat_parts.ensures h in
    let n = c.loop-p.invariant m.0 in
    let o = next-one c.args.ps.now.items c.deref-p-items.result.now c.loop-p.p-index c.p-item.result c.deref-p-items.ensures.value c.loop-p-test.true c.p-item.is in
    (n.0, m.1 ∙ n.1, turn-pattern-parts pat_written c.args.ps.now.items c.loop-p.p-index c.args.maker.now.scope c.loop-p.maker.scope _ _ _ _ o n.1 m.2 n.2)

pub add_all_pat_parts-returns : goal.add_all_pat_parts-returns
add_all_pat_parts-returns t c = λ h.
    let n = c.loop-p.invariant h in
    (n.0, n.1, end-pattern-parts pat_written c.args.ps.now.items c.loop-p.p-index c.args.maker.now.scope _ _ (no-more c.args.ps.now.items c.deref-p-items.result.now c.loop-p.p-index c.deref-p-items.ensures.value c.loop-p-test.false) n.2)

pub make_terms-loop-p-preserved : goal.make_terms-loop-p-preserved
make_terms-loop-p-preserved t c = λ h.
    let k = c.add.ensures h in
    let m = c.make_term-term.ensures k.0 in
    let n = c.loop-p.invariant m.0 in
    let o = next-one c.args.ps.now.items c.deref-p-items.result.now c.loop-p.p-index c.p-item.result c.deref-p-items.ensures.value c.loop-p-test.true c.p-item.is in
    (n.0, k.1 ∙ m.1 ∙ n.1, turn-tree proc_written c.args.ps.now.items c.loop-p.p-index c.args.maker.now.scope c.loop-p.maker.scope _ _ _ _ o n.1 k.2 m.2 n.2)

pub make_terms-returns : goal.make_terms-returns
make_terms-returns t c = λ h.
    let n = c.loop-p.invariant h in
    (n.0, n.1, end-trees proc_written c.args.ps.now.items c.loop-p.p-index c.args.maker.now.scope _ (no-more c.args.ps.now.items c.deref-p-items.result.now c.loop-p.p-index c.deref-p-items.ensures.value c.loop-p-test.false) n.2)

pub make_pats-loop-p-preserved : goal.make_pats-loop-p-preserved
make_pats-loop-p-preserved t c = λ h.
    let k = c.add.ensures h in
    let m = c.make_pat-pat.ensures k.0 in
    let n = c.loop-p.invariant m.0 in
    let o = next-one c.args.ps.now.items c.deref-p-items.result.now c.loop-p.p-index c.p-item.result c.deref-p-items.ensures.value c.loop-p-test.true c.p-item.is in
    (n.0, k.1 ∙ m.1 ∙ n.1, turn-tree pat_written c.args.ps.now.items c.loop-p.p-index c.args.maker.now.scope c.loop-p.maker.scope _ _ _ _ o n.1 k.2 m.2 n.2)

pub make_pats-returns : goal.make_pats-returns
make_pats-returns t c = λ h.
    let n = c.loop-p.invariant h in
    (n.0, n.1, end-trees pat_written c.args.ps.now.items c.loop-p.p-index c.args.maker.now.scope _ (no-more c.args.ps.now.items c.deref-p-items.result.now c.loop-p.p-index c.deref-p-items.ensures.value c.loop-p-test.false) n.2)

pub make_name_pats-loop-p-preserved : goal.make_name_pats-loop-p-preserved
make_name_pats-loop-p-preserved t c = λ h.
    let k = c.add.ensures h in
    let m = c.make_name_pat-pat.ensures k.0 in
    let n = c.loop-p.invariant m.0 in
    let o = next-one c.args.ps.now.items c.deref-p-items.result.now c.loop-p.p-index c.p-item.result c.deref-p-items.ensures.value c.loop-p-test.true c.p-item.is in
    (n.0, k.1 ∙ m.1 ∙ n.1, turn-tree name_pat_written c.args.ps.now.items c.loop-p.p-index c.args.maker.now.scope c.loop-p.maker.scope _ _ _ _ o n.1 k.2 m.2 n.2)

pub make_name_pats-returns : goal.make_name_pats-returns
make_name_pats-returns t c = λ h.
    let n = c.loop-p.invariant h in
    (n.0, n.1, end-trees name_pat_written c.args.ps.now.items c.loop-p.p-index c.args.maker.now.scope _ (no-more c.args.ps.now.items c.deref-p-items.result.now c.loop-p.p-index c.deref-p-items.ensures.value c.loop-p-test.false) n.2)

pub make_pairs-loop-pair-preserved : goal.make_pairs-loop-pair-preserved
make_pairs-loop-pair-preserved t c = λ h.
    let k = c.add.ensures h in
    let b = c.make_term-value.ensures k.0 in
    let a = c.make_term-key.ensures b.0 in
    let n = c.loop-pair.invariant a.0 in
    let o = next-one c.args.pairs.now.items c.deref-pair-items.result.now c.loop-pair.pair-index c.pair-item.result c.deref-pair-items.ensures.value c.loop-pair-test.true c.pair-item.is in
    let e = of-pair (proc_written c.pair-item.result.0) (proc_written c.pair-item.result.1) _ _ _ _ a.1 a.2 b.2 in
    (n.0, k.1 ∙ b.1 ∙ a.1 ∙ n.1, turn-thing proc_pair c.args.pairs.now.items c.loop-pair.pair-index c.args.maker.now.scope c.loop-pair.maker.scope pair_tree _ _ _ _ o n.1 k.2 e n.2)

pub make_pairs-returns : goal.make_pairs-returns
make_pairs-returns t c = λ h.
    let n = c.loop-pair.invariant h in
    (n.0, n.1, end-trees proc_pair c.args.pairs.now.items c.loop-pair.pair-index c.args.maker.now.scope _ (no-more c.args.pairs.now.items c.deref-pair-items.result.now c.loop-pair.pair-index c.deref-pair-items.ensures.value c.loop-pair-test.false) n.2)

pub make_pat_pairs-loop-pair-preserved : goal.make_pat_pairs-loop-pair-preserved
make_pat_pairs-loop-pair-preserved t c = λ h.
    let k = c.add.ensures h in
    let b = c.make_pat-value.ensures k.0 in
    let a = c.make_pat-key.ensures b.0 in
    let n = c.loop-pair.invariant a.0 in
    let o = next-one c.args.pairs.now.items c.deref-pair-items.result.now c.loop-pair.pair-index c.pair-item.result c.deref-pair-items.ensures.value c.loop-pair-test.true c.pair-item.is in
    let e = of-pair (pat_written c.pair-item.result.0) (pat_written c.pair-item.result.1) _ _ _ _ a.1 a.2 b.2 in
    (n.0, k.1 ∙ b.1 ∙ a.1 ∙ n.1, turn-thing pat_pair c.args.pairs.now.items c.loop-pair.pair-index c.args.maker.now.scope c.loop-pair.maker.scope pair_tree _ _ _ _ o n.1 k.2 e n.2)

pub make_pat_pairs-returns : goal.make_pat_pairs-returns
make_pat_pairs-returns t c = λ h.
    let n = c.loop-pair.invariant h in
    (n.0, n.1, end-trees pat_pair c.args.pairs.now.items c.loop-pair.pair-index c.args.maker.now.scope _ (no-more c.args.pairs.now.items c.deref-pair-items.result.now c.loop-pair.pair-index c.deref-pair-items.ensures.value c.loop-pair-test.false) n.2)

pub make_binds-loop-bind-preserved : goal.make_binds-loop-bind-preserved
make_binds-loop-bind-preserved t c = λ h.
    let k = c.add.ensures h in
    let b = c.make_name_pats-pats.ensures k.0 in
    let a = c.make_name-channel.ensures b.0 in
    let n = c.loop-bind.invariant a.0 in
    let o = next-one c.args.binds.now.items c.deref-bind-items.result.now c.loop-bind.bind-index c.bind-item.result c.deref-bind-items.ensures.value c.loop-bind-test.true c.bind-item.is in
    let e = of-bind c.bind-item.result _ _ _ _ _ a.1 a.2 b.2 c.rest_of-rest.ensures in
    (n.0, k.1 ∙ b.1 ∙ a.1 ∙ n.1, turn-thing bind_written c.args.binds.now.items c.loop-bind.bind-index c.args.maker.now.scope c.loop-bind.maker.scope bind_tree _ _ _ _ o n.1 k.2 e n.2)

pub make_binds-returns : goal.make_binds-returns
make_binds-returns t c = λ h.
    let n = c.loop-bind.invariant h in
    (n.0, n.1, end-trees bind_written c.args.binds.now.items c.loop-bind.bind-index c.args.maker.now.scope _ (no-more c.args.binds.now.items c.deref-bind-items.result.now c.loop-bind.bind-index c.deref-bind-items.ensures.value c.loop-bind-test.false) n.2)

pub make_cases-leave-requires : goal.make_cases-leave-requires
make_cases-leave-requires t c = λ h.
    let m = c.make_term-body.ensures h in
    let b = c.bind_pattern.ensures m.0 in
    let a = c.make_pat-pat.ensures b.0 in
    let xs = names (pat_written c.case-item.result.pat) in
    still-bound xs c.loop-case.maker.scope c.make_term-body.new.maker.scope c.depth-outside.result c.depth-outside.ensures (m.1 ∙ b.1 ∙ ap (within xs) a.1)

pub make_cases-loop-case-preserved : goal.make_cases-loop-case-preserved
make_cases-loop-case-preserved t c = λ h.
    let k = c.add.ensures h in
    let l = c.leave.ensures k.0 in
    let m = c.make_term-body.ensures l.0 in
    let b = c.bind_pattern.ensures m.0 in
    let a = c.make_pat-pat.ensures b.0 in
    let n = c.loop-case.invariant a.0 in
    let xs = names (pat_written c.case-item.result.pat) in
    let s = left-again xs c.loop-case.maker.scope c.make_term-body.new.maker.scope c.depth-outside.result c.depth-outside.ensures (m.1 ∙ b.1 ∙ ap (within xs) a.1) in
    let o = next-one c.args.cases.now.items c.deref-case-items.result.now c.loop-case.case-index c.case-item.result c.deref-case-items.ensures.value c.loop-case-test.true c.case-item.is in
    let e = of-case c.case-item.result _ _ _ _ _ a.1 b.1 a.2 m.2 in
    (n.0, k.1 ∙ l.1 ∙ s ∙ n.1, turn-thing case_written c.args.cases.now.items c.loop-case.case-index c.args.maker.now.scope c.loop-case.maker.scope case_tree _ _ _ _ o n.1 k.2 e n.2)

pub make_cases-returns : goal.make_cases-returns
make_cases-returns t c = λ h.
    let n = c.loop-case.invariant h in
    (n.0, n.1, end-trees case_written c.args.cases.now.items c.loop-case.case-index c.args.maker.now.scope _ (no-more c.args.cases.now.items c.deref-case-items.result.now c.loop-case.case-index c.deref-case-items.ensures.value c.loop-case-test.false) n.2)
