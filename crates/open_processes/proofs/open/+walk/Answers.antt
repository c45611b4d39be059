use Rattle.std.proofs.Common.{◌≡◌, ◌<◌, ◌≤◌, ◌||◌, length, get_or, rules, refl, ap, sym, subst, ◌∙◌}
use Rattle.calculus.specs.Meaning.{proc_written, pat_written, name_pat_written, bind_written, case_written}
use Rattle.scope.specs.Binding.{variables, inside, uses_more}
use Rattle.open_processes.specs.Pairs.{proc_pair, pat_pair}
use Rattle.open_processes.proofs.Forms.{dict-form}
use Rattle.open_processes.proofs.Twos.{IsTwo, map-two, list-or-set, send-two, both-or-either, both-used, both-bound}
use Rattle.open_processes.proofs.Uses.{used-turn, used-end, bound-turn, bound-end, two-bound, used-two, bind-used, bind-bound, case-used, rest-used}
use Rattle.open_processes.proofs.open.+walk.Goals as goal

pub walk_binds-loop-bind-preserved : goal.walk_binds-loop-bind-preserved
walk_binds-loop-bind-preserved t c = λ h.
    let r = c.bind_rest.ensures h in
    let q = c.walk_name_patterns.ensures r.0 in
    let m = c.walk_name.ensures q.0 in
    let n = c.loop-bind.invariant m.0 in
    let g : c.bind-item.result ≡ get_or c.args.binds.now.items c.loop-bind.bind-index c.bind-item.result = search rules in
    let i : c.loop-bind.bind-index < length c.args.binds.now.items = search rules in (
      n.0,
      q.1 ∙ m.1 ∙ n.1,
      used-turn bind_written _ _ _ _ _ _ _ _ i g n.1 (r.1 ∙ bind-used c.bind-item.result _ _ _ _ _ m.2 m.1 q.2) n.2,
      bound-turn bind_written _ _ _ _ _ _ i g (bind-bound c.bind-item.result _ _ _ q.3 r.2) n.3,
    )

pub walk_binds-returns : goal.walk_binds-returns
walk_binds-returns t c = λ h.
    let n = c.loop-bind.invariant h in
    let i : length c.args.binds.now.items ≤ c.loop-bind.bind-index = search rules in
    (n.0, n.1, used-end bind_written _ _ _ _ _ i n.2, bound-end bind_written _ _ _ _ i n.3)

pub walk_cases-loop-case-preserved : goal.walk_cases-loop-case-preserved
walk_cases-loop-case-preserved t c = λ h.
    let b = c.walk_within.ensures h in
    let a = c.walk_pattern.ensures b.0 in
    let n = c.loop-case.invariant a.0 in
    let g : c.case-item.result ≡ get_or c.args.cases.now.items c.loop-case.case-index c.case-item.result = search rules in
    let i : c.loop-case.case-index < length c.args.cases.now.items = search rules in
    let d = a.3 ∙ ap (inside (variables (pat_written c.case-item.result.pat))) c.new-bound.ensures in
    (n.0, b.1 ∙ a.1 ∙ n.1, used-turn case_written _ _ _ _ _ _ _ _ i g n.1 (case-used c.case-item.result _ _ _ _ _ _ d a.2 a.1 b.2) n.2)

pub walk_pattern-returns-in-Map : goal.walk_pattern-returns-in-Map
walk_pattern-returns-in-Map t c = λ h.
    let r = c.bind_rest.ensures h in
    let q = c.walk_pattern_pairs.ensures r.0 in
    let k = map-two c.args.p.now c.in-Map.pairs c.in-Map.rest c.in-Map.is in
    (q.0, q.1, both-used c.args.scope.now c.args.scope.now _ _ _ k q.2 refl (rest-used c.in-Map.rest c.args.scope.now _ _ r.1), both-bound _ _ _ k q.3 r.2)

pub walk_pattern-returns-in-List : goal.walk_pattern-returns-in-List
walk_pattern-returns-in-List t c = λ h.
    let r = c.bind_rest-in-List.ensures h in
    let q = c.walk_patterns-in-List.ensures r.0 in
    let k = list-or-set c.args.p.now c.in-List.ps c.in-List.rest c.in-List.is in
    (q.0, q.1, both-used c.args.scope.now c.args.scope.now _ _ _ k q.2 refl (rest-used c.in-List.rest c.args.scope.now _ _ r.1), both-bound _ _ _ k q.3 r.2)

pub walk_pattern-returns-in-Send : goal.walk_pattern-returns-in-Send
walk_pattern-returns-in-Send t c = λ h.
    let b = c.walk_patterns.ensures h in
    let a = c.walk_name_pattern.ensures b.0 in
    let k = send-two c.args.p.now c.in-Send.channel c.in-Send.args c.in-Send.persistent c.in-Send.is in
    (a.0, b.1 ∙ a.1, both-used c.args.scope.now _ _ _ _ k a.2 a.1 b.2, both-bound _ _ _ k a.3 b.3)

pub walk_pattern-returns-in-Both : goal.walk_pattern-returns-in-Both
walk_pattern-returns-in-Both t c = λ h.
    let b = c.walk_pattern-in-Both-2.ensures h in
    let a = c.walk_pattern-in-Both.ensures b.0 in
    let l = ap pat_written c.deref-in-Both.ensures in
    let r = ap pat_written c.deref-in-Both-2.ensures in
    let k = both-or-either c.args.p.now c.in-Both.left c.in-Both.right c.in-Both.is in
    let i : IsTwo (pat_written c.deref-in-Both.result.now) (pat_written c.deref-in-Both-2.result.now) (pat_written c.args.p.now) = rw (l, r) k in
    (a.0, b.1 ∙ a.1, both-used c.args.scope.now _ _ _ _ i a.2 a.1 b.2, both-bound _ _ _ i a.3 b.3)

pub walk_process-returns-in-Map : goal.walk_process-returns-in-Map
walk_process-returns-in-Map t c = λ h.
    let a = c.walk_pairs.ensures h in
    let w = dict-form c.args.p.now c.in-Map.pairs c.in-Map.is in
    (a.0, a.1, subst (λ z. c.walk_pairs.new.walk.used ≡ c.args.walk.now.used || uses_more z c.args.scope.now) (sym w) a.2)

pub walk_processes-loop-p-preserved : goal.walk_processes-loop-p-preserved
walk_processes-loop-p-preserved t c = λ h.
    let k = c.walk_process.ensures h in
    let n = c.loop-p.invariant k.0 in
    let g : c.p-item.result ≡ get_or c.args.ps.now.items c.loop-p.p-index c.p-item.result = search rules in
    let i : c.loop-p.p-index < length c.args.ps.now.items = search rules in
    (n.0, k.1 ∙ n.1, used-turn proc_written _ _ _ _ _ _ _ _ i g n.1 k.2 n.2)

pub walk_pairs-loop-pair-preserved : goal.walk_pairs-loop-pair-preserved
walk_pairs-loop-pair-preserved t c = λ h.
    let b = c.walk_process-in-loop-pair.ensures h in
    let a = c.walk_process.ensures b.0 in
    let n = c.loop-pair.invariant a.0 in
    let g : c.pair-item.result ≡ get_or c.args.pairs.now.items c.loop-pair.pair-index c.pair-item.result = search rules in
    let i : c.loop-pair.pair-index < length c.args.pairs.now.items = search rules in
    let u = used-two (proc_written c.pair-item.result.0) (proc_written c.pair-item.result.1) _ _ _ _ _ a.2 a.1 b.2 in
    (n.0, b.1 ∙ a.1 ∙ n.1, used-turn proc_pair _ _ _ _ _ _ _ _ i g n.1 u n.2)

pub walk_patterns-loop-p-preserved : goal.walk_patterns-loop-p-preserved
walk_patterns-loop-p-preserved t c = λ h.
    let k = c.walk_pattern.ensures h in
    let n = c.loop-p.invariant k.0 in
    let g : c.p-item.result ≡ get_or c.args.ps.now.items c.loop-p.p-index c.p-item.result = search rules in
    let i : c.loop-p.p-index < length c.args.ps.now.items = search rules in
    (n.0, k.1 ∙ n.1, used-turn pat_written _ _ _ _ _ _ _ _ i g n.1 k.2 n.2, bound-turn pat_written _ _ _ _ _ _ i g k.3 n.3)

pub walk_pattern_pairs-loop-pair-preserved : goal.walk_pattern_pairs-loop-pair-preserved
walk_pattern_pairs-loop-pair-preserved t c = λ h.
    let b = c.walk_pattern-in-loop-pair.ensures h in
    let a = c.walk_pattern.ensures b.0 in
    let n = c.loop-pair.invariant a.0 in
    let g : c.pair-item.result ≡ get_or c.args.pairs.now.items c.loop-pair.pair-index c.pair-item.result = search rules in
    let i : c.loop-pair.pair-index < length c.args.pairs.now.items = search rules in
    let u = used-two (pat_written c.pair-item.result.0) (pat_written c.pair-item.result.1) _ _ _ _ _ a.2 a.1 b.2 in
    (n.0, b.1 ∙ a.1 ∙ n.1, used-turn pat_pair _ _ _ _ _ _ _ _ i g n.1 u n.2, bound-turn pat_pair _ _ _ _ _ _ i g (two-bound (pat_written c.pair-item.result.0) (pat_written c.pair-item.result.1) _ _ _ a.3 b.3) n.3)

pub walk_name_patterns-loop-p-preserved : goal.walk_name_patterns-loop-p-preserved
walk_name_patterns-loop-p-preserved t c = λ h.
    let k = c.walk_name_pattern.ensures h in
    let n = c.loop-p.invariant k.0 in
    let g : c.p-item.result ≡ get_or c.args.ps.now.items c.loop-p.p-index c.p-item.result = search rules in
    let i : c.loop-p.p-index < length c.args.ps.now.items = search rules in
    (n.0, k.1 ∙ n.1, used-turn name_pat_written _ _ _ _ _ _ _ _ i g n.1 k.2 n.2, bound-turn name_pat_written _ _ _ _ _ _ i g k.3 n.3)
