use Rattle.std.proofs.Common.{◌≡◌, ◌<◌, ◌≤◌, length, get_or, rules, sym, subst, ap, ◌∙◌, map}
use Rattle.std.specs.Prelude.{OnOk}
use Rattle.calculus.specs.declared.process.Proc.{the_lemmas}
use Rattle.calculus.specs.Tree.{send, map_pattern, list_pattern, set_pattern, pattern, tuple, not_this, both, either}
use Rattle.calculus.specs.Written.{in_pattern, form_of, form_of_one, form_of_two}
use Rattle.calculus.specs.Bare.{names}
use Rattle.calculus.specs.Meaning.{pair_of, row_of, pat_written, name_pat_written, rest_written}
use Rattle.open_processes.specs.Pairs.{pat_pair}
use Rattle.open_processes.proofs.Meanings.{pat-pairs}
use Rattle.normal_parts.specs.InScope.{within}
use Rattle.normal_parts.proofs.Binding.{bound-one, bound-two, bound-turn, bound-end, within-two}
use Rattle.normal_parts.proofs.bind.+binding.Goals as goal

pub bind_pattern-returns-in_ok-bind_name_pattern-in-Send : goal.bind_pattern-returns-in_ok-bind_name_pattern-in-Send
bind_pattern-returns-in_ok-bind_name_pattern-in-Send t c =
    let w : pat_written c.args.p.now ≡ form_of_two (in_pattern (send c.in-Send.persistent)) (name_pat_written c.in-Send.channel) (row_of (map pat_written c.in-Send.args.items)) = search (rules, the_lemmas) in
    let e : c.bind_name_pattern.new.bound ≡ within (names (name_pat_written c.in-Send.channel)) c.args.bound.now = c.in_ok-bind_name_pattern-in-Send.ensures in
    let h : OnOk c.bind_patterns-in-Send.result (c.bind_patterns-in-Send.new.bound ≡ within (names (row_of (map pat_written c.in-Send.args.items))) c.bind_name_pattern.new.bound) = search rules in
    subst (λ z. OnOk c.bind_patterns-in-Send.result (c.bind_patterns-in-Send.new.bound ≡ within (names z) c.args.bound.now)) (sym w) (bound-two c.bind_patterns-in-Send.result c.bind_patterns-in-Send.new.bound (names (name_pat_written c.in-Send.channel)) (names (row_of (map pat_written c.in-Send.args.items))) c.args.bound.now c.bind_name_pattern.new.bound e h)

pub bind_pattern-returns-in_ok-bind_pattern_pairs-in-Map : goal.bind_pattern-returns-in_ok-bind_pattern_pairs-in-Map
bind_pattern-returns-in_ok-bind_pattern_pairs-in-Map t c =
    let w0 : pat_written c.args.p.now ≡ form_of_two (in_pattern map_pattern) (row_of (map pair_of (map (λ q. (pat_written q.0, pat_written q.1)) c.in-Map.ps.items))) (rest_written c.in-Map.rest) = search (rules, the_lemmas) in
    let w = w0 ∙ ap (λ z. form_of_two (in_pattern map_pattern) (row_of z) (rest_written c.in-Map.rest)) (pat-pairs c.in-Map.ps.items) in
    let e : c.bind_pattern_pairs.new.bound ≡ within (names (row_of (map pat_pair c.in-Map.ps.items))) c.args.bound.now = c.in_ok-bind_pattern_pairs-in-Map.ensures in
    let h : OnOk c.bind_rest-in-Map.result (c.bind_rest-in-Map.new.bound ≡ within (names (rest_written c.in-Map.rest)) c.bind_pattern_pairs.new.bound) = search rules in
    subst (λ z. OnOk c.bind_rest-in-Map.result (c.bind_rest-in-Map.new.bound ≡ within (names z) c.args.bound.now)) (sym w) (bound-two c.bind_rest-in-Map.result c.bind_rest-in-Map.new.bound (names (row_of (map pat_pair c.in-Map.ps.items))) (names (rest_written c.in-Map.rest)) c.args.bound.now c.bind_pattern_pairs.new.bound e h)

pub bind_pattern-returns-in-Par : goal.bind_pattern-returns-in-Par
bind_pattern-returns-in-Par t c =
    let w : pat_written c.args.p.now ≡ form_of (in_pattern pattern) (map pat_written c.in-Par.ps.items) = search (rules, the_lemmas) in
    subst (λ z. OnOk c.bind_patterns.result (c.bind_patterns.new.bound ≡ within (names z) c.args.bound.now)) (sym w) (c.bind_patterns.ensures)

pub bind_pattern-returns-in-Tuple : goal.bind_pattern-returns-in-Tuple
bind_pattern-returns-in-Tuple t c =
    let w : pat_written c.args.p.now ≡ form_of (in_pattern tuple) (map pat_written c.in-Tuple.ps.items) = search (rules, the_lemmas) in
    subst (λ z. OnOk c.bind_patterns-in-Tuple.result (c.bind_patterns-in-Tuple.new.bound ≡ within (names z) c.args.bound.now)) (sym w) (c.bind_patterns-in-Tuple.ensures)

pub bind_pattern-returns-in-Not : goal.bind_pattern-returns-in-Not
bind_pattern-returns-in-Not t c =
    let w : pat_written c.args.p.now ≡ form_of_one (in_pattern not_this) (pat_written c.deref-in-Not.result.now) = search (rules, the_lemmas) in
    subst (λ z. OnOk c.bind_pattern-in-Not.result (c.bind_pattern-in-Not.new.bound ≡ within (names z) c.args.bound.now)) (sym w) (bound-one c.bind_pattern-in-Not.result c.bind_pattern-in-Not.new.bound (names (pat_written c.deref-in-Not.result.now)) c.args.bound.now c.bind_pattern-in-Not.ensures)

pub bind_pattern-returns-in_ok-bind_pattern-in-Both : goal.bind_pattern-returns-in_ok-bind_pattern-in-Both
bind_pattern-returns-in_ok-bind_pattern-in-Both t c =
    let w : pat_written c.args.p.now ≡ form_of_two (in_pattern both) (pat_written c.deref.result.now) (pat_written c.deref-in-Both.result.now) = search (rules, the_lemmas) in
    subst (λ z. OnOk c.bind_pattern-in-Both.result (c.bind_pattern-in-Both.new.bound ≡ within (names z) c.args.bound.now)) (sym w) (bound-two c.bind_pattern-in-Both.result c.bind_pattern-in-Both.new.bound (names (pat_written c.deref.result.now)) (names (pat_written c.deref-in-Both.result.now)) c.args.bound.now c.bind_pattern.new.bound c.in_ok-bind_pattern-in-Both.ensures c.bind_pattern-in-Both.ensures)

pub bind_pattern-returns-in_ok-bind_pattern-in-Either : goal.bind_pattern-returns-in_ok-bind_pattern-in-Either
bind_pattern-returns-in_ok-bind_pattern-in-Either t c =
    let w : pat_written c.args.p.now ≡ form_of_two (in_pattern either) (pat_written c.deref-in-Either.result.now) (pat_written c.deref-in-Either-2.result.now) = search (rules, the_lemmas) in
    subst (λ z. OnOk c.bind_pattern-in-Either-2.result (c.bind_pattern-in-Either-2.new.bound ≡ within (names z) c.args.bound.now)) (sym w) (bound-two c.bind_pattern-in-Either-2.result c.bind_pattern-in-Either-2.new.bound (names (pat_written c.deref-in-Either.result.now)) (names (pat_written c.deref-in-Either-2.result.now)) c.args.bound.now c.bind_pattern-in-Either.new.bound c.in_ok-bind_pattern-in-Either.ensures c.bind_pattern-in-Either-2.ensures)

pub bind_pattern-returns-in_ok-bind_patterns-in-List : goal.bind_pattern-returns-in_ok-bind_patterns-in-List
bind_pattern-returns-in_ok-bind_patterns-in-List t c =
    let w : pat_written c.args.p.now ≡ form_of_two (in_pattern list_pattern) (row_of (map pat_written c.in-List.ps.items)) (rest_written c.in-List.rest) = search (rules, the_lemmas) in
    subst (λ z. OnOk c.bind_rest.result (c.bind_rest.new.bound ≡ within (names z) c.args.bound.now)) (sym w) (bound-two c.bind_rest.result c.bind_rest.new.bound (names (row_of (map pat_written c.in-List.ps.items))) (names (rest_written c.in-List.rest)) c.args.bound.now c.bind_patterns-in-List.new.bound c.in_ok-bind_patterns-in-List.ensures c.bind_rest.ensures)

pub bind_pattern-returns-in_ok-bind_patterns-in-Set : goal.bind_pattern-returns-in_ok-bind_patterns-in-Set
bind_pattern-returns-in_ok-bind_patterns-in-Set t c =
    let w : pat_written c.args.p.now ≡ form_of_two (in_pattern set_pattern) (row_of (map pat_written c.in-Set.ps.items)) (rest_written c.in-Set.rest) = search (rules, the_lemmas) in
    subst (λ z. OnOk c.bind_rest-in-Set.result (c.bind_rest-in-Set.new.bound ≡ within (names z) c.args.bound.now)) (sym w) (bound-two c.bind_rest-in-Set.result c.bind_rest-in-Set.new.bound (names (row_of (map pat_written c.in-Set.ps.items))) (names (rest_written c.in-Set.rest)) c.args.bound.now c.bind_patterns-in-Set.new.bound c.in_ok-bind_patterns-in-Set.ensures c.bind_rest-in-Set.ensures)

pub bind_patterns-loop-p-preserved : goal.bind_patterns-loop-p-preserved
bind_patterns-loop-p-preserved t c =
    let l : c.loop-p.p-index < length c.args.ps.now.items = subst (λ us. c.loop-p.p-index < length us) c.deref-p-items.ensures.value c.loop-p-test.true in
    let g : c.p-item.result ≡ get_or c.args.ps.now.items c.loop-p.p-index c.p-item.result = subst (λ us. c.p-item.result ≡ get_or us c.loop-p.p-index c.p-item.result) c.deref-p-items.ensures.value c.p-item.is in
    bound-turn pat_written c.args.ps.now.items c.loop-p.p-index c.p-item.result c.loop-p.bound c.bind_pattern.new.bound _ l g c.in_ok-bind_pattern.ensures c.loop-p.invariant

pub bind_patterns-returns : goal.bind_patterns-returns
bind_patterns-returns t c =
    bound-end pat_written c.args.ps.now.items c.loop-p.p-index c.loop-p.bound _ (subst (λ us. length us ≤ c.loop-p.p-index) c.deref-p-items.ensures.value c.loop-p-test.false) c.loop-p.invariant

pub bind_pattern_pairs-loop-p-preserved : goal.bind_pattern_pairs-loop-p-preserved
bind_pattern_pairs-loop-p-preserved t c =
    let l : c.loop-p.p-index < length c.args.ps.now.items = subst (λ us. c.loop-p.p-index < length us) c.deref-p-items.ensures.value c.loop-p-test.true in
    let g : c.p-item.result ≡ get_or c.args.ps.now.items c.loop-p.p-index c.p-item.result = subst (λ us. c.p-item.result ≡ get_or us c.loop-p.p-index c.p-item.result) c.deref-p-items.ensures.value c.p-item.is in
    bound-turn pat_pair c.args.ps.now.items c.loop-p.p-index c.p-item.result c.loop-p.bound c.bind_pattern-in-loop-p.new.bound _ l g (c.in_ok-bind_pattern-2.ensures ∙ ap (within (names (pat_written c.p-item.result.1))) c.in_ok-bind_pattern.ensures ∙ sym (within-two (names (pat_written c.p-item.result.0)) (names (pat_written c.p-item.result.1)) c.loop-p.bound)) c.loop-p.invariant

pub bind_pattern_pairs-returns : goal.bind_pattern_pairs-returns
bind_pattern_pairs-returns t c =
    bound-end pat_pair c.args.ps.now.items c.loop-p.p-index c.loop-p.bound _ (subst (λ us. length us ≤ c.loop-p.p-index) c.deref-p-items.ensures.value c.loop-p-test.false) c.loop-p.invariant
