use Rattle.std.proofs.Common.{◌≡◌, ◌++◌, ◌<◌, ◌≤◌, rules, refl, sym, subst, ap, ◌∙◌, length, get_or, map, false}
use Rattle.std.specs.Prelude.{Err, OnOk, [], string_bytes, vec_len, leb, ◌||◌}
use Rattle.calculus.specs.declared.process.Proc.{the_lemmas}
use Rattle.calculus.specs.Tree.{dict, send, match, binary, method, receive, both, either}
use Rattle.calculus.specs.Written.{in_process, in_pattern, form_of, form_of_two, writtens}
use Rattle.calculus.specs.Meaning.{row_of, pair_of, proc_written, name_written, pat_written, name_pat_written, bind_written, case_written, rest_written}
use Rattle.scope.specs.Binding.{variables, inside, uses_more}
use Rattle.scope.specs.Rules.{outside, after, where_so, how_many, pattern_wide, pattern_binder, breaks, all_breaks}
use Rattle.input_faults.specs.Faults.{IsRefusal}
use Rattle.input_faults.specs.Walks.{Judges}
use Rattle.scope_names.proofs.Insides.{bound-two, inside-two}
use Rattle.input_faults.proofs.Refusals.{refusal-left, refusal-right, none-append, judges-right, judges-end, loop-refusal, many-members, on-ok}
use Rattle.input_faults.proofs.Turns.{rules-turn, rules-end, bound-turn, bound-end}
use Rattle.open_processes.specs.Pairs.{proc_pair, pat_pair}
use Rattle.open_processes.proofs.Meanings.{proc-pairs, rest-breaks}
use Rattle.open_processes.proofs.Forms.{bind-form, case-form, list-form, set-form, map-form}
use Rattle.open_processes.proofs.Leaving.{is-err}
use Rattle.input_faults.proofs.Narrow.{breaks-narrow}
use Rattle.scope_check.proofs.check.+check.Goals as goal

pub check_bind-returns-clause-bound : goal.check_bind-returns-clause-bound
check_bind-returns-clause-bound t c =
    let w = bind-form c.args.b.now in
    let e : c.check_name_patterns.new.bound ≡ inside (variables (row_of (map name_pat_written c.args.b.now.pats.items))) c.args.bound.now = c.in_ok-check_name_patterns.ensures.bound in
    let h : c.check_rest.new.bound ≡ inside (variables (rest_written c.args.b.now.rest)) c.check_name_patterns.new.bound = c.in_ok-check_rest.ensures.bound in
    let k = h ∙ ap (inside (variables (rest_written c.args.b.now.rest))) e ∙ sym (inside-two (variables (row_of (map name_pat_written c.args.b.now.pats.items))) (variables (rest_written c.args.b.now.rest)) c.args.bound.now) ∙ ap (λ z. inside (z ++ (variables (row_of (map name_pat_written c.args.b.now.pats.items)) ++ (variables (rest_written c.args.b.now.rest) ++ []))) c.args.bound.now) (sym c.check_name.ensures.binds) in
    on-ok c.check_name.result (k ∙ ap (λ x. inside (variables x) c.args.bound.now) (sym w))

pub check_bind-returns-in_err-check_name_patterns-clause-rules : goal.check_bind-returns-in_err-check_name_patterns-clause-rules
check_bind-returns-in_err-check_name_patterns-clause-rules t c =
    let q : c.from_residual.result ≡ Err c.in_err-check_name_patterns.field-0.0 = is-err _ _ c.from_residual.ensures.1 in
    let w = bind-form c.args.b.now in
    subst (λ z. Judges z (breaks (bind_written c.args.b.now) c.args.scope.now (after c.args.bound.now false))) (sym q) (subst (λ x. IsRefusal c.in_err-check_name_patterns.field-0.0 (breaks x c.args.scope.now (after c.args.bound.now false))) (sym w) (refusal-left _ _ _ (refusal-left _ _ _ c.in_err-check_name_patterns.ensures.rules)))

pub check_binds-returns-in_err-check_bind-clause-rules : goal.check_binds-returns-in_err-check_bind-clause-rules
check_binds-returns-in_err-check_bind-clause-rules t c =
    let q : c.from_residual.result ≡ Err c.in_err-check_bind.field-0.0 = is-err _ _ c.from_residual.ensures.1 in
    let g : c.b-item.result ≡ get_or c.args.binds.now.items c.loop-b.b-index c.b-item.result = subst (λ us. c.b-item.result ≡ get_or us c.loop-b.b-index c.b-item.result) c.deref-b-items.ensures.value c.b-item.is in
    let i : c.loop-b.b-index < length c.args.binds.now.items = subst (λ us. c.loop-b.b-index < length us) c.deref-b-items.ensures.value c.loop-b-test.true in
    subst (λ z. Judges z (all_breaks (writtens (map bind_written c.args.binds.now.items)) c.args.scope.now (after c.args.bound.now false))) (sym q) (subst (λ s. IsRefusal c.in_err-check_bind.field-0.0 (all_breaks (writtens (map bind_written c.args.binds.now.items)) s (after c.args.bound.now false))) c.loop-b.invariant.scope (loop-refusal bind_written c.args.binds.now.items c.loop-b.b-index c.b-item.result _ _ _ _ i g c.loop-b.invariant.rules c.in_err-check_bind.ensures.rules))

pub check_case-returns-in_err-check_pattern-clause-rules : goal.check_case-returns-in_err-check_pattern-clause-rules
check_case-returns-in_err-check_pattern-clause-rules t c =
    let q : c.from_residual.result ≡ Err c.in_err-check_pattern.field-0.0 = is-err _ _ c.from_residual.ensures.1 in
    let w = case-form c.args.case.now in
    subst (λ z. Judges z (breaks (case_written c.args.case.now) c.args.scope.now outside)) (sym q) (subst (λ x. IsRefusal c.in_err-check_pattern.field-0.0 (breaks x c.args.scope.now outside)) (sym w) (refusal-left _ _ _ (subst (λ b. IsRefusal c.in_err-check_pattern.field-0.0 (breaks (pat_written c.args.case.now.pat) c.args.scope.now (after b false))) c.new-bound.ensures c.in_err-check_pattern.ensures.rules)))

pub check_cases-returns-in_err-check_case-clause-rules : goal.check_cases-returns-in_err-check_case-clause-rules
check_cases-returns-in_err-check_case-clause-rules t c =
    let q : c.from_residual.result ≡ Err c.in_err-check_case.field-0.0 = is-err _ _ c.from_residual.ensures.1 in
    let g : c.case-item.result ≡ get_or c.args.cases.now.items c.loop-case.case-index c.case-item.result = subst (λ us. c.case-item.result ≡ get_or us c.loop-case.case-index c.case-item.result) c.deref-case-items.ensures.value c.case-item.is in
    let i : c.loop-case.case-index < length c.args.cases.now.items = subst (λ us. c.loop-case.case-index < length us) c.deref-case-items.ensures.value c.loop-case-test.true in
    subst (λ z. Judges z (all_breaks (writtens (map case_written c.args.cases.now.items)) c.args.scope.now outside)) (sym q) (subst (λ s. IsRefusal c.in_err-check_case.field-0.0 (all_breaks (writtens (map case_written c.args.cases.now.items)) s outside)) c.loop-case.invariant.scope (loop-refusal case_written c.args.cases.now.items c.loop-case.case-index c.case-item.result _ _ _ _ i g c.loop-case.invariant.rules c.in_err-check_case.ensures.rules))

pub check_closed-returns-clause-rules : goal.check_closed-returns-clause-rules
check_closed-returns-clause-rules t c =
    let u : uses_more (proc_written c.args.p.now) [] ≡ false = search rules in
    let b : breaks (proc_written c.args.p.now) c.args.scope.now outside ≡ breaks (proc_written c.args.p.now) [] outside = breaks-narrow (proc_written c.args.p.now) [] c.args.scope.now outside u in
    let f : where_so (uses_more (proc_written c.args.p.now) [] || false) pattern_binder ≡ [] = ap (λ k. where_so (k || false) pattern_binder) u in
    judges-right c.check_process.result _ _ f (judges-end c.check_process.result _ (subst (Judges c.check_process.result) b c.check_process.ensures.rules))

pub check_name_patterns-returns-in_err-check_name_pattern-clause-rules : goal.check_name_patterns-returns-in_err-check_name_pattern-clause-rules
check_name_patterns-returns-in_err-check_name_pattern-clause-rules t c =
    let q : c.from_residual.result ≡ Err c.in_err-check_name_pattern.field-0.0 = is-err _ _ c.from_residual.ensures.1 in
    let g : c.p-item.result ≡ get_or c.args.ps.now.items c.loop-p.p-index c.p-item.result = subst (λ us. c.p-item.result ≡ get_or us c.loop-p.p-index c.p-item.result) c.deref-p-items.ensures.value c.p-item.is in
    let i : c.loop-p.p-index < length c.args.ps.now.items = subst (λ us. c.loop-p.p-index < length us) c.deref-p-items.ensures.value c.loop-p-test.true in
    subst (λ z. Judges z (all_breaks (writtens (map name_pat_written c.args.ps.now.items)) c.args.scope.now (after c.args.bound.now c.args.negated))) (sym q) (subst (λ s. IsRefusal c.in_err-check_name_pattern.field-0.0 (all_breaks (writtens (map name_pat_written c.args.ps.now.items)) s (after c.args.bound.now c.args.negated))) c.loop-p.invariant.scope (loop-refusal name_pat_written c.args.ps.now.items c.loop-p.p-index c.p-item.result _ _ _ _ i g c.loop-p.invariant.rules c.in_err-check_name_pattern.ensures.rules))

pub check_pairs-returns-in_err-check_process-2-clause-rules : goal.check_pairs-returns-in_err-check_process-2-clause-rules
check_pairs-returns-in_err-check_process-2-clause-rules t c =
    let q : c.from_residual-in_err-check_process-2.result ≡ Err c.in_err-check_process-2.field-0.0 = is-err _ _ c.from_residual-in_err-check_process-2.ensures.1 in
    let g : c.p-item.result ≡ get_or c.args.ps.now.items c.loop-p.p-index c.p-item.result = subst (λ us. c.p-item.result ≡ get_or us c.loop-p.p-index c.p-item.result) c.deref-p-items.ensures.value c.p-item.is in
    let i : c.loop-p.p-index < length c.args.ps.now.items = subst (λ us. c.loop-p.p-index < length us) c.deref-p-items.ensures.value c.loop-p-test.true in
    let n : IsRefusal c.in_err-check_process-2.field-0.0 (breaks (proc_pair c.p-item.result) c.loop-p.scope outside) = (refusal-right _ _ _ c.in_ok-check_process.ensures.rules (refusal-left _ _ _ (subst (λ s. IsRefusal c.in_err-check_process-2.field-0.0 (breaks (proc_written c.p-item.result.1) s outside)) c.in_ok-check_process.ensures.scope c.in_err-check_process-2.ensures.rules))) in
    subst (λ z. Judges z (all_breaks (writtens (map proc_pair c.args.ps.now.items)) c.args.scope.now outside)) (sym q) (subst (λ s. IsRefusal c.in_err-check_process-2.field-0.0 (all_breaks (writtens (map proc_pair c.args.ps.now.items)) s outside)) c.loop-p.invariant.scope (loop-refusal proc_pair c.args.ps.now.items c.loop-p.p-index c.p-item.result _ _ _ _ i g c.loop-p.invariant.rules n))

pub check_pairs-returns-in_err-check_process-clause-rules : goal.check_pairs-returns-in_err-check_process-clause-rules
check_pairs-returns-in_err-check_process-clause-rules t c =
    let q : c.from_residual.result ≡ Err c.in_err-check_process.field-0.0 = is-err _ _ c.from_residual.ensures.1 in
    let g : c.p-item.result ≡ get_or c.args.ps.now.items c.loop-p.p-index c.p-item.result = subst (λ us. c.p-item.result ≡ get_or us c.loop-p.p-index c.p-item.result) c.deref-p-items.ensures.value c.p-item.is in
    let i : c.loop-p.p-index < length c.args.ps.now.items = subst (λ us. c.loop-p.p-index < length us) c.deref-p-items.ensures.value c.loop-p-test.true in
    let n : IsRefusal c.in_err-check_process.field-0.0 (breaks (proc_pair c.p-item.result) c.loop-p.scope outside) = (refusal-left _ _ _ c.in_err-check_process.ensures.rules) in
    subst (λ z. Judges z (all_breaks (writtens (map proc_pair c.args.ps.now.items)) c.args.scope.now outside)) (sym q) (subst (λ s. IsRefusal c.in_err-check_process.field-0.0 (all_breaks (writtens (map proc_pair c.args.ps.now.items)) s outside)) c.loop-p.invariant.scope (loop-refusal proc_pair c.args.ps.now.items c.loop-p.p-index c.p-item.result _ _ _ _ i g c.loop-p.invariant.rules n))

pub check_pattern-returns-in_err-check_name_pattern-in-Send-clause-rules : goal.check_pattern-returns-in_err-check_name_pattern-in-Send-clause-rules
check_pattern-returns-in_err-check_name_pattern-in-Send-clause-rules t c =
    let q : c.from_residual-in_err-check_name_pattern-in-Send.result ≡ Err c.in_err-check_name_pattern-in-Send.field-0.0 = is-err _ _ c.from_residual-in_err-check_name_pattern-in-Send.ensures.1 in
    let w : pat_written c.args.p.now ≡ form_of_two (in_pattern (send c.in-Send.persistent)) (name_pat_written c.in-Send.channel) (row_of (map pat_written c.in-Send.args.items)) = search (rules, the_lemmas) in
    subst (λ z. Judges z (breaks (pat_written c.args.p.now) c.args.scope.now (after c.args.bound.now c.args.negated))) (sym q) (subst (λ x. IsRefusal c.in_err-check_name_pattern-in-Send.field-0.0 (breaks x c.args.scope.now (after c.args.bound.now c.args.negated))) (sym w) (refusal-left _ _ _ c.in_err-check_name_pattern-in-Send.ensures.rules))

pub check_pattern-returns-in_err-check_pattern-in-Both-clause-rules : goal.check_pattern-returns-in_err-check_pattern-in-Both-clause-rules
check_pattern-returns-in_err-check_pattern-in-Both-clause-rules t c =
    let q : c.from_residual.result ≡ Err c.in_err-check_pattern-in-Both.field-0.0 = is-err _ _ c.from_residual.ensures.1 in
    let w : pat_written c.args.p.now ≡ form_of_two (in_pattern both) (pat_written c.deref-in-Both.result.now) (pat_written c.in-Both.b.value) = search (rules, the_lemmas) in
    subst (λ z. Judges z (breaks (pat_written c.args.p.now) c.args.scope.now (after c.args.bound.now c.args.negated))) (sym q) (subst (λ x. IsRefusal c.in_err-check_pattern-in-Both.field-0.0 (breaks x c.args.scope.now (after c.args.bound.now c.args.negated))) (sym w) (refusal-left _ _ _ c.in_err-check_pattern-in-Both.ensures.rules))

pub check_pattern-returns-in_err-check_pattern-in-Either-clause-rules : goal.check_pattern-returns-in_err-check_pattern-in-Either-clause-rules
check_pattern-returns-in_err-check_pattern-in-Either-clause-rules t c =
    let q : c.from_residual-in_err-check_pattern-in-Either.result ≡ Err c.in_err-check_pattern-in-Either.field-0.0 = is-err _ _ c.from_residual-in_err-check_pattern-in-Either.ensures.1 in
    let w : pat_written c.args.p.now ≡ form_of_two (in_pattern either) (pat_written c.deref-in-Either.result.now) (pat_written c.in-Either.b.value) = search (rules, the_lemmas) in
    subst (λ z. Judges z (breaks (pat_written c.args.p.now) c.args.scope.now (after c.args.bound.now c.args.negated))) (sym q) (subst (λ x. IsRefusal c.in_err-check_pattern-in-Either.field-0.0 (breaks x c.args.scope.now (after c.args.bound.now c.args.negated))) (sym w) (refusal-left _ _ _ c.in_err-check_pattern-in-Either.ensures.rules))

pub check_pattern-returns-in_err-check_pattern_pairs-in-Map-clause-rules : goal.check_pattern-returns-in_err-check_pattern_pairs-in-Map-clause-rules
check_pattern-returns-in_err-check_pattern_pairs-in-Map-clause-rules t c =
    let q : c.from_residual-in_err-check_pattern_pairs-in-Map.result ≡ Err c.in_err-check_pattern_pairs-in-Map.field-0.0 = is-err _ _ c.from_residual-in_err-check_pattern_pairs-in-Map.ensures.1 in
    let w = map-form c.args.p.now c.in-Map.ps c.in-Map.rest c.in-Map.is in
    let l : vec_len c.in-Map.ps ≡ length c.in-Map.ps.items = search rules in
    let n : vec_len c.in-Map.ps ≡ how_many (writtens (map pat_pair c.in-Map.ps.items)) = l ∙ sym (many-members pat_pair c.in-Map.ps.items) in
    let f : where_so (leb 9 (how_many (writtens (map pat_pair c.in-Map.ps.items)))) pattern_wide ≡ [] = subst (λ k. where_so (leb 9 k) pattern_wide ≡ []) (c.len-in-Map.ensures ∙ n) c.in_ok-members_fit-in-Map.ensures in
    subst (λ z. Judges z (breaks (pat_written c.args.p.now) c.args.scope.now (after c.args.bound.now c.args.negated))) (sym q) (subst (λ x. IsRefusal c.in_err-check_pattern_pairs-in-Map.field-0.0 (breaks x c.args.scope.now (after c.args.bound.now c.args.negated))) (sym w) (refusal-right _ _ _ f (refusal-left _ _ _ c.in_err-check_pattern_pairs-in-Map.ensures.rules)))

pub check_pattern-returns-in_err-check_patterns-in-List-clause-rules : goal.check_pattern-returns-in_err-check_patterns-in-List-clause-rules
check_pattern-returns-in_err-check_patterns-in-List-clause-rules t c =
    let q : c.from_residual-in_err-check_patterns-in-List.result ≡ Err c.in_err-check_patterns-in-List.field-0.0 = is-err _ _ c.from_residual-in_err-check_patterns-in-List.ensures.1 in
    let w = list-form c.args.p.now c.in-List.ps c.in-List.rest c.in-List.is in
    subst (λ z. Judges z (breaks (pat_written c.args.p.now) c.args.scope.now (after c.args.bound.now c.args.negated))) (sym q) (subst (λ x. IsRefusal c.in_err-check_patterns-in-List.field-0.0 (breaks x c.args.scope.now (after c.args.bound.now c.args.negated))) (sym w) (refusal-left _ _ _ c.in_err-check_patterns-in-List.ensures.rules))

pub check_pattern-returns-in_err-check_patterns-in-Set-clause-rules : goal.check_pattern-returns-in_err-check_patterns-in-Set-clause-rules
check_pattern-returns-in_err-check_patterns-in-Set-clause-rules t c =
    let q : c.from_residual-in_err-check_patterns-in-Set.result ≡ Err c.in_err-check_patterns-in-Set.field-0.0 = is-err _ _ c.from_residual-in_err-check_patterns-in-Set.ensures.1 in
    let w = set-form c.args.p.now c.in-Set.ps c.in-Set.rest c.in-Set.is in
    let l : vec_len c.in-Set.ps ≡ length c.in-Set.ps.items = search rules in
    let n : vec_len c.in-Set.ps ≡ how_many (writtens (map pat_written c.in-Set.ps.items)) = l ∙ sym (many-members pat_written c.in-Set.ps.items) in
    let f : where_so (leb 9 (how_many (writtens (map pat_written c.in-Set.ps.items)))) pattern_wide ≡ [] = subst (λ k. where_so (leb 9 k) pattern_wide ≡ []) (c.len.ensures ∙ n) c.in_ok-members_fit-in-Set.ensures in
    subst (λ z. Judges z (breaks (pat_written c.args.p.now) c.args.scope.now (after c.args.bound.now c.args.negated))) (sym q) (subst (λ x. IsRefusal c.in_err-check_patterns-in-Set.field-0.0 (breaks x c.args.scope.now (after c.args.bound.now c.args.negated))) (sym w) (refusal-right _ _ _ f (refusal-left _ _ _ c.in_err-check_patterns-in-Set.ensures.rules)))

pub check_pattern-returns-in_err-members_fit-in-Map-clause-rules : goal.check_pattern-returns-in_err-members_fit-in-Map-clause-rules
check_pattern-returns-in_err-members_fit-in-Map-clause-rules t c =
    let q : c.from_residual-in_err-members_fit-in-Map.result ≡ Err c.in_err-members_fit-in-Map.field-0.0 = is-err _ _ c.from_residual-in_err-members_fit-in-Map.ensures.1 in
    let w = map-form c.args.p.now c.in-Map.ps c.in-Map.rest c.in-Map.is in
    let l : vec_len c.in-Map.ps ≡ length c.in-Map.ps.items = search rules in
    let n : vec_len c.in-Map.ps ≡ how_many (writtens (map pat_pair c.in-Map.ps.items)) = l ∙ sym (many-members pat_pair c.in-Map.ps.items) in
    let f : IsRefusal c.in_err-members_fit-in-Map.field-0.0 (where_so (leb 9 (how_many (writtens (map pat_pair c.in-Map.ps.items)))) pattern_wide) = subst (λ k. IsRefusal c.in_err-members_fit-in-Map.field-0.0 (where_so (leb 9 k) pattern_wide)) (c.len-in-Map.ensures ∙ n) c.in_err-members_fit-in-Map.ensures in
    subst (λ z. Judges z (breaks (pat_written c.args.p.now) c.args.scope.now (after c.args.bound.now c.args.negated))) (sym q) (subst (λ x. IsRefusal c.in_err-members_fit-in-Map.field-0.0 (breaks x c.args.scope.now (after c.args.bound.now c.args.negated))) (sym w) (refusal-left _ _ _ f))

pub check_pattern-returns-in_err-members_fit-in-Set-clause-rules : goal.check_pattern-returns-in_err-members_fit-in-Set-clause-rules
check_pattern-returns-in_err-members_fit-in-Set-clause-rules t c =
    let q : c.from_residual-in_err-members_fit-in-Set.result ≡ Err c.in_err-members_fit-in-Set.field-0.0 = is-err _ _ c.from_residual-in_err-members_fit-in-Set.ensures.1 in
    let w = set-form c.args.p.now c.in-Set.ps c.in-Set.rest c.in-Set.is in
    let l : vec_len c.in-Set.ps ≡ length c.in-Set.ps.items = search rules in
    let n : vec_len c.in-Set.ps ≡ how_many (writtens (map pat_written c.in-Set.ps.items)) = l ∙ sym (many-members pat_written c.in-Set.ps.items) in
    let f : IsRefusal c.in_err-members_fit-in-Set.field-0.0 (where_so (leb 9 (how_many (writtens (map pat_written c.in-Set.ps.items)))) pattern_wide) = subst (λ k. IsRefusal c.in_err-members_fit-in-Set.field-0.0 (where_so (leb 9 k) pattern_wide)) (c.len.ensures ∙ n) c.in_err-members_fit-in-Set.ensures in
    subst (λ z. Judges z (breaks (pat_written c.args.p.now) c.args.scope.now (after c.args.bound.now c.args.negated))) (sym q) (subst (λ x. IsRefusal c.in_err-members_fit-in-Set.field-0.0 (breaks x c.args.scope.now (after c.args.bound.now c.args.negated))) (sym w) (refusal-left _ _ _ f))

pub check_pattern-returns-in_ok-check_name_pattern-in-Send-clause-bound : goal.check_pattern-returns-in_ok-check_name_pattern-in-Send-clause-bound
check_pattern-returns-in_ok-check_name_pattern-in-Send-clause-bound t c =
    let w : pat_written c.args.p.now ≡ form_of_two (in_pattern (send c.in-Send.persistent)) (name_pat_written c.in-Send.channel) (row_of (map pat_written c.in-Send.args.items)) = search (rules, the_lemmas) in
    let e : c.check_name_pattern.new.bound ≡ inside (variables (name_pat_written c.in-Send.channel)) c.args.bound.now = c.in_ok-check_name_pattern-in-Send.ensures.bound in
    let h : OnOk c.check_patterns-in-Send.result (c.check_patterns-in-Send.new.bound ≡ inside (variables (row_of (map pat_written c.in-Send.args.items))) (c.check_name_pattern.new.bound)) = c.check_patterns-in-Send.ensures.bound in
    subst (λ x. OnOk c.check_patterns-in-Send.result (c.check_patterns-in-Send.new.bound ≡ inside (variables x) c.args.bound.now)) (sym w) (bound-two c.check_patterns-in-Send.result c.check_patterns-in-Send.new.bound (variables (name_pat_written c.in-Send.channel)) (variables (row_of (map pat_written c.in-Send.args.items))) c.args.bound.now (c.check_name_pattern.new.bound) e h)

pub check_pattern-returns-in_ok-check_pattern-in-Both-clause-bound : goal.check_pattern-returns-in_ok-check_pattern-in-Both-clause-bound
check_pattern-returns-in_ok-check_pattern-in-Both-clause-bound t c =
    let w : pat_written c.args.p.now ≡ form_of_two (in_pattern both) (pat_written c.deref-in-Both.result.now) (pat_written c.deref-in-Both-2.result.now) = search (rules, the_lemmas) in
    let e : c.check_pattern.new.bound ≡ inside (variables (pat_written c.deref-in-Both.result.now)) c.args.bound.now = c.in_ok-check_pattern-in-Both.ensures.bound in
    let h : OnOk c.check_pattern-in-Both.result (c.check_pattern-in-Both.new.bound ≡ inside (variables (pat_written c.deref-in-Both-2.result.now)) (c.check_pattern.new.bound)) = c.check_pattern-in-Both.ensures.bound in
    subst (λ x. OnOk c.check_pattern-in-Both.result (c.check_pattern-in-Both.new.bound ≡ inside (variables x) c.args.bound.now)) (sym w) (bound-two c.check_pattern-in-Both.result c.check_pattern-in-Both.new.bound (variables (pat_written c.deref-in-Both.result.now)) (variables (pat_written c.deref-in-Both-2.result.now)) c.args.bound.now (c.check_pattern.new.bound) e h)

pub check_pattern-returns-in_ok-check_pattern-in-Either-clause-bound : goal.check_pattern-returns-in_ok-check_pattern-in-Either-clause-bound
check_pattern-returns-in_ok-check_pattern-in-Either-clause-bound t c =
    let w : pat_written c.args.p.now ≡ form_of_two (in_pattern either) (pat_written c.deref-in-Either.result.now) (pat_written c.deref-in-Either-2.result.now) = search (rules, the_lemmas) in
    let e : c.check_pattern-in-Either.new.bound ≡ inside (variables (pat_written c.deref-in-Either.result.now)) c.args.bound.now = c.in_ok-check_pattern-in-Either.ensures.bound in
    let h : OnOk c.check_pattern-in-Either-2.result (c.check_pattern-in-Either-2.new.bound ≡ inside (variables (pat_written c.deref-in-Either-2.result.now)) (c.check_pattern-in-Either.new.bound)) = c.check_pattern-in-Either-2.ensures.bound in
    subst (λ x. OnOk c.check_pattern-in-Either-2.result (c.check_pattern-in-Either-2.new.bound ≡ inside (variables x) c.args.bound.now)) (sym w) (bound-two c.check_pattern-in-Either-2.result c.check_pattern-in-Either-2.new.bound (variables (pat_written c.deref-in-Either.result.now)) (variables (pat_written c.deref-in-Either-2.result.now)) c.args.bound.now (c.check_pattern-in-Either.new.bound) e h)

pub check_pattern-returns-in_ok-check_pattern_pairs-in-Map-clause-bound : goal.check_pattern-returns-in_ok-check_pattern_pairs-in-Map-clause-bound
check_pattern-returns-in_ok-check_pattern_pairs-in-Map-clause-bound t c =
    let w = map-form c.args.p.now c.in-Map.ps c.in-Map.rest c.in-Map.is in
    let e : c.check_pattern_pairs.new.bound ≡ inside (variables (row_of (map pat_pair c.in-Map.ps.items))) c.args.bound.now = c.in_ok-check_pattern_pairs-in-Map.ensures.bound in
    let h : OnOk c.check_rest-in-Map.result (c.check_rest-in-Map.new.bound ≡ inside (variables (rest_written c.in-Map.rest)) c.check_pattern_pairs.new.bound) = c.check_rest-in-Map.ensures.bound in
    subst (λ x. OnOk c.check_rest-in-Map.result (c.check_rest-in-Map.new.bound ≡ inside (variables x) c.args.bound.now)) (sym w) (bound-two c.check_rest-in-Map.result c.check_rest-in-Map.new.bound (variables (row_of (map pat_pair c.in-Map.ps.items))) (variables (rest_written c.in-Map.rest)) c.args.bound.now c.check_pattern_pairs.new.bound e h)

pub check_pattern-returns-in_ok-check_pattern_pairs-in-Map-clause-rules : goal.check_pattern-returns-in_ok-check_pattern_pairs-in-Map-clause-rules
check_pattern-returns-in_ok-check_pattern_pairs-in-Map-clause-rules t c =
    let w = map-form c.args.p.now c.in-Map.ps c.in-Map.rest c.in-Map.is in
    let l : vec_len c.in-Map.ps ≡ length c.in-Map.ps.items = search rules in
    let n : vec_len c.in-Map.ps ≡ how_many (writtens (map pat_pair c.in-Map.ps.items)) = l ∙ sym (many-members pat_pair c.in-Map.ps.items) in
    let f : where_so (leb 9 (how_many (writtens (map pat_pair c.in-Map.ps.items)))) pattern_wide ≡ [] = subst (λ k. where_so (leb 9 k) pattern_wide ≡ []) (c.len-in-Map.ensures ∙ n) c.in_ok-members_fit-in-Map.ensures in
    let r = c.check_rest-in-Map.result in
    let e : c.check_pattern_pairs.new.bound ≡ inside (variables (row_of (map pat_pair c.in-Map.ps.items))) c.args.bound.now = c.in_ok-check_pattern_pairs-in-Map.ensures.bound in
    let a = rest-breaks c.in-Map.rest [] c.args.scope.now (after c.check_pattern_pairs.new.bound c.args.negated) ∙ ap (λ o. breaks (rest_written c.in-Map.rest) c.args.scope.now (after o c.args.negated)) e in
    subst (λ x. Judges c.check_rest-in-Map.result (breaks x c.args.scope.now (after c.args.bound.now c.args.negated))) (sym w) (judges-right c.check_rest-in-Map.result _ _ f (judges-right c.check_rest-in-Map.result _ _ c.in_ok-check_pattern_pairs-in-Map.ensures.rules (judges-end c.check_rest-in-Map.result _ (subst (Judges c.check_rest-in-Map.result) a c.check_rest-in-Map.ensures.rules))))

pub check_pattern-returns-in_ok-check_patterns-in-List-clause-bound : goal.check_pattern-returns-in_ok-check_patterns-in-List-clause-bound
check_pattern-returns-in_ok-check_patterns-in-List-clause-bound t c =
    let w = list-form c.args.p.now c.in-List.ps c.in-List.rest c.in-List.is in
    let e : c.check_patterns-in-List.new.bound ≡ inside (variables (row_of (map pat_written c.in-List.ps.items))) c.args.bound.now = c.in_ok-check_patterns-in-List.ensures.bound in
    let h : OnOk c.check_rest.result (c.check_rest.new.bound ≡ inside (variables (rest_written c.in-List.rest)) (c.check_patterns-in-List.new.bound)) = c.check_rest.ensures.bound in
    subst (λ x. OnOk c.check_rest.result (c.check_rest.new.bound ≡ inside (variables x) c.args.bound.now)) (sym w) (bound-two c.check_rest.result c.check_rest.new.bound (variables (row_of (map pat_written c.in-List.ps.items))) (variables (rest_written c.in-List.rest)) c.args.bound.now (c.check_patterns-in-List.new.bound) e h)

pub check_pattern-returns-in_ok-check_patterns-in-Set-clause-bound : goal.check_pattern-returns-in_ok-check_patterns-in-Set-clause-bound
check_pattern-returns-in_ok-check_patterns-in-Set-clause-bound t c =
    let w = set-form c.args.p.now c.in-Set.ps c.in-Set.rest c.in-Set.is in
    let e : c.check_patterns-in-Set.new.bound ≡ inside (variables (row_of (map pat_written c.in-Set.ps.items))) c.args.bound.now = c.in_ok-check_patterns-in-Set.ensures.bound in
    let h : OnOk c.check_rest-in-Set.result (c.check_rest-in-Set.new.bound ≡ inside (variables (rest_written c.in-Set.rest)) (c.check_patterns-in-Set.new.bound)) = c.check_rest-in-Set.ensures.bound in
    subst (λ x. OnOk c.check_rest-in-Set.result (c.check_rest-in-Set.new.bound ≡ inside (variables x) c.args.bound.now)) (sym w) (bound-two c.check_rest-in-Set.result c.check_rest-in-Set.new.bound (variables (row_of (map pat_written c.in-Set.ps.items))) (variables (rest_written c.in-Set.rest)) c.args.bound.now (c.check_patterns-in-Set.new.bound) e h)

pub check_pattern-returns-in_ok-check_patterns-in-Set-clause-rules : goal.check_pattern-returns-in_ok-check_patterns-in-Set-clause-rules
check_pattern-returns-in_ok-check_patterns-in-Set-clause-rules t c =
    let w = set-form c.args.p.now c.in-Set.ps c.in-Set.rest c.in-Set.is in
    let l : vec_len c.in-Set.ps ≡ length c.in-Set.ps.items = search rules in
    let n : vec_len c.in-Set.ps ≡ how_many (writtens (map pat_written c.in-Set.ps.items)) = l ∙ sym (many-members pat_written c.in-Set.ps.items) in
    let f : where_so (leb 9 (how_many (writtens (map pat_written c.in-Set.ps.items)))) pattern_wide ≡ [] = subst (λ k. where_so (leb 9 k) pattern_wide ≡ []) (c.len.ensures ∙ n) c.in_ok-members_fit-in-Set.ensures in
    let r = c.check_rest-in-Set.result in
    let e : c.check_patterns-in-Set.new.bound ≡ inside (variables (row_of (map pat_written c.in-Set.ps.items))) c.args.bound.now = c.in_ok-check_patterns-in-Set.ensures.bound in
    let a = rest-breaks c.in-Set.rest [] c.args.scope.now (after c.check_patterns-in-Set.new.bound c.args.negated) ∙ ap (λ o. breaks (rest_written c.in-Set.rest) c.args.scope.now (after o c.args.negated)) e in
    subst (λ x. Judges c.check_rest-in-Set.result (breaks x c.args.scope.now (after c.args.bound.now c.args.negated))) (sym w) (judges-right c.check_rest-in-Set.result _ _ f (judges-right c.check_rest-in-Set.result _ _ c.in_ok-check_patterns-in-Set.ensures.rules (judges-end c.check_rest-in-Set.result _ (subst (Judges c.check_rest-in-Set.result) a c.check_rest-in-Set.ensures.rules))))

pub check_pattern_pairs-returns-in_err-check_pattern-2-clause-rules : goal.check_pattern_pairs-returns-in_err-check_pattern-2-clause-rules
check_pattern_pairs-returns-in_err-check_pattern-2-clause-rules t c =
    let q : c.from_residual-in_err-check_pattern-2.result ≡ Err c.in_err-check_pattern-2.field-0.0 = is-err _ _ c.from_residual-in_err-check_pattern-2.ensures.1 in
    let g : c.p-item.result ≡ get_or c.args.ps.now.items c.loop-p.p-index c.p-item.result = subst (λ us. c.p-item.result ≡ get_or us c.loop-p.p-index c.p-item.result) c.deref-p-items.ensures.value c.p-item.is in
    let i : c.loop-p.p-index < length c.args.ps.now.items = subst (λ us. c.loop-p.p-index < length us) c.deref-p-items.ensures.value c.loop-p-test.true in
    let n : IsRefusal c.in_err-check_pattern-2.field-0.0 (breaks (pat_pair c.p-item.result) c.loop-p.scope (after c.loop-p.bound c.args.negated)) = (refusal-right _ _ _ c.in_ok-check_pattern.ensures.rules (refusal-left _ _ _ (subst (λ o. IsRefusal c.in_err-check_pattern-2.field-0.0 (breaks (pat_written c.p-item.result.1) c.loop-p.scope (after o c.args.negated))) c.in_ok-check_pattern.ensures.bound (subst (λ s. IsRefusal c.in_err-check_pattern-2.field-0.0 (breaks (pat_written c.p-item.result.1) s (after c.check_pattern.new.bound c.args.negated))) c.in_ok-check_pattern.ensures.scope c.in_err-check_pattern-2.ensures.rules)))) in
    subst (λ z. Judges z (all_breaks (writtens (map pat_pair c.args.ps.now.items)) c.args.scope.now (after c.args.bound.now c.args.negated))) (sym q) (subst (λ s. IsRefusal c.in_err-check_pattern-2.field-0.0 (all_breaks (writtens (map pat_pair c.args.ps.now.items)) s (after c.args.bound.now c.args.negated))) c.loop-p.invariant.scope (loop-refusal pat_pair c.args.ps.now.items c.loop-p.p-index c.p-item.result _ _ _ _ i g c.loop-p.invariant.rules n))

pub check_pattern_pairs-returns-in_err-check_pattern-clause-rules : goal.check_pattern_pairs-returns-in_err-check_pattern-clause-rules
check_pattern_pairs-returns-in_err-check_pattern-clause-rules t c =
    let q : c.from_residual.result ≡ Err c.in_err-check_pattern.field-0.0 = is-err _ _ c.from_residual.ensures.1 in
    let g : c.p-item.result ≡ get_or c.args.ps.now.items c.loop-p.p-index c.p-item.result = subst (λ us. c.p-item.result ≡ get_or us c.loop-p.p-index c.p-item.result) c.deref-p-items.ensures.value c.p-item.is in
    let i : c.loop-p.p-index < length c.args.ps.now.items = subst (λ us. c.loop-p.p-index < length us) c.deref-p-items.ensures.value c.loop-p-test.true in
    let n : IsRefusal c.in_err-check_pattern.field-0.0 (breaks (pat_pair c.p-item.result) c.loop-p.scope (after c.loop-p.bound c.args.negated)) = (refusal-left _ _ _ c.in_err-check_pattern.ensures.rules) in
    subst (λ z. Judges z (all_breaks (writtens (map pat_pair c.args.ps.now.items)) c.args.scope.now (after c.args.bound.now c.args.negated))) (sym q) (subst (λ s. IsRefusal c.in_err-check_pattern.field-0.0 (all_breaks (writtens (map pat_pair c.args.ps.now.items)) s (after c.args.bound.now c.args.negated))) c.loop-p.invariant.scope (loop-refusal pat_pair c.args.ps.now.items c.loop-p.p-index c.p-item.result _ _ _ _ i g c.loop-p.invariant.rules n))

pub check_patterns-returns-in_err-check_pattern-clause-rules : goal.check_patterns-returns-in_err-check_pattern-clause-rules
check_patterns-returns-in_err-check_pattern-clause-rules t c =
    let q : c.from_residual.result ≡ Err c.in_err-check_pattern.field-0.0 = is-err _ _ c.from_residual.ensures.1 in
    let g : c.p-item.result ≡ get_or c.args.ps.now.items c.loop-p.p-index c.p-item.result = subst (λ us. c.p-item.result ≡ get_or us c.loop-p.p-index c.p-item.result) c.deref-p-items.ensures.value c.p-item.is in
    let i : c.loop-p.p-index < length c.args.ps.now.items = subst (λ us. c.loop-p.p-index < length us) c.deref-p-items.ensures.value c.loop-p-test.true in
    subst (λ z. Judges z (all_breaks (writtens (map pat_written c.args.ps.now.items)) c.args.scope.now (after c.args.bound.now c.args.negated))) (sym q) (subst (λ s. IsRefusal c.in_err-check_pattern.field-0.0 (all_breaks (writtens (map pat_written c.args.ps.now.items)) s (after c.args.bound.now c.args.negated))) c.loop-p.invariant.scope (loop-refusal pat_written c.args.ps.now.items c.loop-p.p-index c.p-item.result _ _ _ _ i g c.loop-p.invariant.rules c.in_err-check_pattern.ensures.rules))

pub check_process-returns-in-Map-clause-rules : goal.check_process-returns-in-Map-clause-rules
check_process-returns-in-Map-clause-rules t c =
    let w : proc_written c.args.p.now ≡ form_of (in_process dict) (map pair_of (map (λ q. (proc_written q.0, proc_written q.1)) c.in-Map.ps.items)) = search (rules, the_lemmas) in
    let x = w ∙ ap (λ z. form_of (in_process dict) z) (proc-pairs c.in-Map.ps.items) in
    subst (λ z. Judges c.check_pairs.result (breaks z c.args.scope.now outside)) (sym x) c.check_pairs.ensures.rules

pub check_process-returns-in_err-check_binds-in-Receive-clause-rules : goal.check_process-returns-in_err-check_binds-in-Receive-clause-rules
check_process-returns-in_err-check_binds-in-Receive-clause-rules t c =
    let q : c.from_residual-in_err-check_binds-in-Receive.result ≡ Err c.in_err-check_binds-in-Receive.field-0.0 = is-err _ _ c.from_residual-in_err-check_binds-in-Receive.ensures.1 in
    let w : proc_written c.args.p.now ≡ form_of_two (in_process (receive c.in-Receive.kind)) (row_of (map bind_written c.in-Receive.binds.items)) (proc_written c.in-Receive.body.value) = search (rules, the_lemmas) in
    subst (λ z. Judges z (breaks (proc_written c.args.p.now) c.args.scope.now outside)) (sym q) (subst (λ x. IsRefusal c.in_err-check_binds-in-Receive.field-0.0 (breaks x c.args.scope.now outside)) (sym w) (refusal-left _ _ _ (subst (λ b. IsRefusal c.in_err-check_binds-in-Receive.field-0.0 (all_breaks (writtens (map bind_written c.in-Receive.binds.items)) c.args.scope.now (after b false))) c.new-bound.ensures c.in_err-check_binds-in-Receive.ensures.rules)))

pub check_process-returns-in_err-check_name-in-Send-clause-rules : goal.check_process-returns-in_err-check_name-in-Send-clause-rules
check_process-returns-in_err-check_name-in-Send-clause-rules t c =
    let q : c.from_residual.result ≡ Err c.in_err-check_name-in-Send.field-0.0 = is-err _ _ c.from_residual.ensures.1 in
    let w : proc_written c.args.p.now ≡ form_of_two (in_process (send c.in-Send.persistent)) (name_written c.in-Send.channel) (row_of (map proc_written c.in-Send.args.items)) = search (rules, the_lemmas) in
    subst (λ z. Judges z (breaks (proc_written c.args.p.now) c.args.scope.now outside)) (sym q) (subst (λ x. IsRefusal c.in_err-check_name-in-Send.field-0.0 (breaks x c.args.scope.now outside)) (sym w) (refusal-left _ _ _ c.in_err-check_name-in-Send.ensures.rules))

pub check_process-returns-in_err-check_process-in-Binary-clause-rules : goal.check_process-returns-in_err-check_process-in-Binary-clause-rules
check_process-returns-in_err-check_process-in-Binary-clause-rules t c =
    let q : c.from_residual-in_err-check_process-in-Binary.result ≡ Err c.in_err-check_process-in-Binary.field-0.0 = is-err _ _ c.from_residual-in_err-check_process-in-Binary.ensures.1 in
    let w : proc_written c.args.p.now ≡ form_of_two (in_process (binary c.in-Binary.op)) (proc_written c.deref-in-Binary.result.now) (proc_written c.in-Binary.right.value) = search (rules, the_lemmas) in
    subst (λ z. Judges z (breaks (proc_written c.args.p.now) c.args.scope.now outside)) (sym q) (subst (λ x. IsRefusal c.in_err-check_process-in-Binary.field-0.0 (breaks x c.args.scope.now outside)) (sym w) (refusal-left _ _ _ c.in_err-check_process-in-Binary.ensures.rules))

pub check_process-returns-in_err-check_process-in-Match-clause-rules : goal.check_process-returns-in_err-check_process-in-Match-clause-rules
check_process-returns-in_err-check_process-in-Match-clause-rules t c =
    let q : c.from_residual-in_err-check_process-in-Match.result ≡ Err c.in_err-check_process-in-Match.field-0.0 = is-err _ _ c.from_residual-in_err-check_process-in-Match.ensures.1 in
    let w : proc_written c.args.p.now ≡ form_of_two (in_process match) (proc_written c.deref-in-Match.result.now) (row_of (map case_written c.in-Match.cases.items)) = search (rules, the_lemmas) in
    subst (λ z. Judges z (breaks (proc_written c.args.p.now) c.args.scope.now outside)) (sym q) (subst (λ x. IsRefusal c.in_err-check_process-in-Match.field-0.0 (breaks x c.args.scope.now outside)) (sym w) (refusal-left _ _ _ c.in_err-check_process-in-Match.ensures.rules))

pub check_process-returns-in_err-check_process-in-Method-clause-rules : goal.check_process-returns-in_err-check_process-in-Method-clause-rules
check_process-returns-in_err-check_process-in-Method-clause-rules t c =
    let q : c.from_residual-in_err-check_process-in-Method.result ≡ Err c.in_err-check_process-in-Method.field-0.0 = is-err _ _ c.from_residual-in_err-check_process-in-Method.ensures.1 in
    let w : proc_written c.args.p.now ≡ form_of_two (in_process (method (string_bytes c.in-Method.name))) (proc_written c.deref-in-Method.result.now) (row_of (map proc_written c.in-Method.args.items)) = search (rules, the_lemmas) in
    subst (λ z. Judges z (breaks (proc_written c.args.p.now) c.args.scope.now outside)) (sym q) (subst (λ x. IsRefusal c.in_err-check_process-in-Method.field-0.0 (breaks x c.args.scope.now outside)) (sym w) (refusal-left _ _ _ c.in_err-check_process-in-Method.ensures.rules))

pub check_processes-returns-in_err-check_process-clause-rules : goal.check_processes-returns-in_err-check_process-clause-rules
check_processes-returns-in_err-check_process-clause-rules t c =
    let q : c.from_residual.result ≡ Err c.in_err-check_process.field-0.0 = is-err _ _ c.from_residual.ensures.1 in
    let g : c.p-item.result ≡ get_or c.args.ps.now.items c.loop-p.p-index c.p-item.result = subst (λ us. c.p-item.result ≡ get_or us c.loop-p.p-index c.p-item.result) c.deref-p-items.ensures.value c.p-item.is in
    let i : c.loop-p.p-index < length c.args.ps.now.items = subst (λ us. c.loop-p.p-index < length us) c.deref-p-items.ensures.value c.loop-p-test.true in
    subst (λ z. Judges z (all_breaks (writtens (map proc_written c.args.ps.now.items)) c.args.scope.now outside)) (sym q) (subst (λ s. IsRefusal c.in_err-check_process.field-0.0 (all_breaks (writtens (map proc_written c.args.ps.now.items)) s outside)) c.loop-p.invariant.scope (loop-refusal proc_written c.args.ps.now.items c.loop-p.p-index c.p-item.result _ _ _ _ i g c.loop-p.invariant.rules c.in_err-check_process.ensures.rules))

pub check_bind-returns-in_err-check_name_patterns-clause-scope : goal.check_bind-returns-in_err-check_name_patterns-clause-scope
check_bind-returns-in_err-check_name_patterns-clause-scope t c = rw (is-err _ _ c.from_residual.ensures.1) tt

pub check_bind-returns-in_err-check_name_patterns-clause-bound : goal.check_bind-returns-in_err-check_name_patterns-clause-bound
check_bind-returns-in_err-check_name_patterns-clause-bound t c = rw (is-err _ _ c.from_residual.ensures.1) tt

pub check_binds-returns-in_err-check_bind-clause-scope : goal.check_binds-returns-in_err-check_bind-clause-scope
check_binds-returns-in_err-check_bind-clause-scope t c = rw (is-err _ _ c.from_residual.ensures.1) tt

pub check_binds-returns-in_err-check_bind-clause-bound : goal.check_binds-returns-in_err-check_bind-clause-bound
check_binds-returns-in_err-check_bind-clause-bound t c = rw (is-err _ _ c.from_residual.ensures.1) tt

pub check_case-returns-in_err-check_pattern-clause-scope : goal.check_case-returns-in_err-check_pattern-clause-scope
check_case-returns-in_err-check_pattern-clause-scope t c = rw (is-err _ _ c.from_residual.ensures.1) tt

pub check_cases-returns-in_err-check_case-clause-scope : goal.check_cases-returns-in_err-check_case-clause-scope
check_cases-returns-in_err-check_case-clause-scope t c = rw (is-err _ _ c.from_residual.ensures.1) tt

pub check_name_patterns-returns-in_err-check_name_pattern-clause-scope : goal.check_name_patterns-returns-in_err-check_name_pattern-clause-scope
check_name_patterns-returns-in_err-check_name_pattern-clause-scope t c = rw (is-err _ _ c.from_residual.ensures.1) tt

pub check_name_patterns-returns-in_err-check_name_pattern-clause-bound : goal.check_name_patterns-returns-in_err-check_name_pattern-clause-bound
check_name_patterns-returns-in_err-check_name_pattern-clause-bound t c = rw (is-err _ _ c.from_residual.ensures.1) tt

pub check_pairs-returns-in_err-check_process-2-clause-scope : goal.check_pairs-returns-in_err-check_process-2-clause-scope
check_pairs-returns-in_err-check_process-2-clause-scope t c = rw (is-err _ _ c.from_residual-in_err-check_process-2.ensures.1) tt

pub check_pairs-returns-in_err-check_process-clause-scope : goal.check_pairs-returns-in_err-check_process-clause-scope
check_pairs-returns-in_err-check_process-clause-scope t c = rw (is-err _ _ c.from_residual.ensures.1) tt

pub check_pattern-returns-in_err-check_name_pattern-in-Send-clause-scope : goal.check_pattern-returns-in_err-check_name_pattern-in-Send-clause-scope
check_pattern-returns-in_err-check_name_pattern-in-Send-clause-scope t c = rw (is-err _ _ c.from_residual-in_err-check_name_pattern-in-Send.ensures.1) tt

pub check_pattern-returns-in_err-check_name_pattern-in-Send-clause-bound : goal.check_pattern-returns-in_err-check_name_pattern-in-Send-clause-bound
check_pattern-returns-in_err-check_name_pattern-in-Send-clause-bound t c = rw (is-err _ _ c.from_residual-in_err-check_name_pattern-in-Send.ensures.1) tt

pub check_pattern-returns-in_err-check_pattern-in-Both-clause-scope : goal.check_pattern-returns-in_err-check_pattern-in-Both-clause-scope
check_pattern-returns-in_err-check_pattern-in-Both-clause-scope t c = rw (is-err _ _ c.from_residual.ensures.1) tt

pub check_pattern-returns-in_err-check_pattern-in-Both-clause-bound : goal.check_pattern-returns-in_err-check_pattern-in-Both-clause-bound
check_pattern-returns-in_err-check_pattern-in-Both-clause-bound t c = rw (is-err _ _ c.from_residual.ensures.1) tt

pub check_pattern-returns-in_err-check_pattern-in-Either-clause-scope : goal.check_pattern-returns-in_err-check_pattern-in-Either-clause-scope
check_pattern-returns-in_err-check_pattern-in-Either-clause-scope t c = rw (is-err _ _ c.from_residual-in_err-check_pattern-in-Either.ensures.1) tt

pub check_pattern-returns-in_err-check_pattern-in-Either-clause-bound : goal.check_pattern-returns-in_err-check_pattern-in-Either-clause-bound
check_pattern-returns-in_err-check_pattern-in-Either-clause-bound t c = rw (is-err _ _ c.from_residual-in_err-check_pattern-in-Either.ensures.1) tt

pub check_pattern-returns-in_err-check_pattern_pairs-in-Map-clause-scope : goal.check_pattern-returns-in_err-check_pattern_pairs-in-Map-clause-scope
check_pattern-returns-in_err-check_pattern_pairs-in-Map-clause-scope t c = rw (is-err _ _ c.from_residual-in_err-check_pattern_pairs-in-Map.ensures.1) tt

pub check_pattern-returns-in_err-check_pattern_pairs-in-Map-clause-bound : goal.check_pattern-returns-in_err-check_pattern_pairs-in-Map-clause-bound
check_pattern-returns-in_err-check_pattern_pairs-in-Map-clause-bound t c = rw (is-err _ _ c.from_residual-in_err-check_pattern_pairs-in-Map.ensures.1) tt

pub check_pattern-returns-in_err-check_patterns-in-List-clause-scope : goal.check_pattern-returns-in_err-check_patterns-in-List-clause-scope
check_pattern-returns-in_err-check_patterns-in-List-clause-scope t c = rw (is-err _ _ c.from_residual-in_err-check_patterns-in-List.ensures.1) tt

pub check_pattern-returns-in_err-check_patterns-in-List-clause-bound : goal.check_pattern-returns-in_err-check_patterns-in-List-clause-bound
check_pattern-returns-in_err-check_patterns-in-List-clause-bound t c = rw (is-err _ _ c.from_residual-in_err-check_patterns-in-List.ensures.1) tt

pub check_pattern-returns-in_err-check_patterns-in-Set-clause-scope : goal.check_pattern-returns-in_err-check_patterns-in-Set-clause-scope
check_pattern-returns-in_err-check_patterns-in-Set-clause-scope t c = rw (is-err _ _ c.from_residual-in_err-check_patterns-in-Set.ensures.1) tt

pub check_pattern-returns-in_err-check_patterns-in-Set-clause-bound : goal.check_pattern-returns-in_err-check_patterns-in-Set-clause-bound
check_pattern-returns-in_err-check_patterns-in-Set-clause-bound t c = rw (is-err _ _ c.from_residual-in_err-check_patterns-in-Set.ensures.1) tt

pub check_pattern-returns-in_err-members_fit-in-Map-clause-scope : goal.check_pattern-returns-in_err-members_fit-in-Map-clause-scope
check_pattern-returns-in_err-members_fit-in-Map-clause-scope t c = rw (is-err _ _ c.from_residual-in_err-members_fit-in-Map.ensures.1) tt

pub check_pattern-returns-in_err-members_fit-in-Map-clause-bound : goal.check_pattern-returns-in_err-members_fit-in-Map-clause-bound
check_pattern-returns-in_err-members_fit-in-Map-clause-bound t c = rw (is-err _ _ c.from_residual-in_err-members_fit-in-Map.ensures.1) tt

pub check_pattern-returns-in_err-members_fit-in-Set-clause-scope : goal.check_pattern-returns-in_err-members_fit-in-Set-clause-scope
check_pattern-returns-in_err-members_fit-in-Set-clause-scope t c = rw (is-err _ _ c.from_residual-in_err-members_fit-in-Set.ensures.1) tt

pub check_pattern-returns-in_err-members_fit-in-Set-clause-bound : goal.check_pattern-returns-in_err-members_fit-in-Set-clause-bound
check_pattern-returns-in_err-members_fit-in-Set-clause-bound t c = rw (is-err _ _ c.from_residual-in_err-members_fit-in-Set.ensures.1) tt

pub check_pattern_pairs-returns-in_err-check_pattern-2-clause-scope : goal.check_pattern_pairs-returns-in_err-check_pattern-2-clause-scope
check_pattern_pairs-returns-in_err-check_pattern-2-clause-scope t c = rw (is-err _ _ c.from_residual-in_err-check_pattern-2.ensures.1) tt

pub check_pattern_pairs-returns-in_err-check_pattern-2-clause-bound : goal.check_pattern_pairs-returns-in_err-check_pattern-2-clause-bound
check_pattern_pairs-returns-in_err-check_pattern-2-clause-bound t c = rw (is-err _ _ c.from_residual-in_err-check_pattern-2.ensures.1) tt

pub check_pattern_pairs-returns-in_err-check_pattern-clause-scope : goal.check_pattern_pairs-returns-in_err-check_pattern-clause-scope
check_pattern_pairs-returns-in_err-check_pattern-clause-scope t c = rw (is-err _ _ c.from_residual.ensures.1) tt

pub check_pattern_pairs-returns-in_err-check_pattern-clause-bound : goal.check_pattern_pairs-returns-in_err-check_pattern-clause-bound
check_pattern_pairs-returns-in_err-check_pattern-clause-bound t c = rw (is-err _ _ c.from_residual.ensures.1) tt

pub check_patterns-returns-in_err-check_pattern-clause-scope : goal.check_patterns-returns-in_err-check_pattern-clause-scope
check_patterns-returns-in_err-check_pattern-clause-scope t c = rw (is-err _ _ c.from_residual.ensures.1) tt

pub check_patterns-returns-in_err-check_pattern-clause-bound : goal.check_patterns-returns-in_err-check_pattern-clause-bound
check_patterns-returns-in_err-check_pattern-clause-bound t c = rw (is-err _ _ c.from_residual.ensures.1) tt

pub check_process-returns-in_err-check_binds-in-Receive-clause-scope : goal.check_process-returns-in_err-check_binds-in-Receive-clause-scope
check_process-returns-in_err-check_binds-in-Receive-clause-scope t c = rw (is-err _ _ c.from_residual-in_err-check_binds-in-Receive.ensures.1) tt

pub check_process-returns-in_err-check_name-in-Send-clause-scope : goal.check_process-returns-in_err-check_name-in-Send-clause-scope
check_process-returns-in_err-check_name-in-Send-clause-scope t c = rw (is-err _ _ c.from_residual.ensures.1) tt

pub check_process-returns-in_err-check_process-in-Binary-clause-scope : goal.check_process-returns-in_err-check_process-in-Binary-clause-scope
check_process-returns-in_err-check_process-in-Binary-clause-scope t c = rw (is-err _ _ c.from_residual-in_err-check_process-in-Binary.ensures.1) tt

pub check_process-returns-in_err-check_process-in-Match-clause-scope : goal.check_process-returns-in_err-check_process-in-Match-clause-scope
check_process-returns-in_err-check_process-in-Match-clause-scope t c = rw (is-err _ _ c.from_residual-in_err-check_process-in-Match.ensures.1) tt

pub check_process-returns-in_err-check_process-in-Method-clause-scope : goal.check_process-returns-in_err-check_process-in-Method-clause-scope
check_process-returns-in_err-check_process-in-Method-clause-scope t c = rw (is-err _ _ c.from_residual-in_err-check_process-in-Method.ensures.1) tt

pub check_processes-returns-in_err-check_process-clause-scope : goal.check_processes-returns-in_err-check_process-clause-scope
check_processes-returns-in_err-check_process-clause-scope t c = rw (is-err _ _ c.from_residual.ensures.1) tt

pub check_within-returns-in_err-check_process-clause-scope : goal.check_within-returns-in_err-check_process-clause-scope
check_within-returns-in_err-check_process-clause-scope t c = rw (is-err _ _ c.from_residual-in_err-check_process.ensures.1) tt

pub check_bind-returns-in_err-check_rest-clause-scope : goal.check_bind-returns-in_err-check_rest-clause-scope
check_bind-returns-in_err-check_rest-clause-scope t c = rw (is-err _ _ c.from_residual-in_err-check_rest.ensures.1) tt

pub check_bind-returns-in_err-check_rest-clause-bound : goal.check_bind-returns-in_err-check_rest-clause-bound
check_bind-returns-in_err-check_rest-clause-bound t c = rw (is-err _ _ c.from_residual-in_err-check_rest.ensures.1) tt

pub check_processes-loop-p-preserved : goal.check_processes-loop-p-preserved
check_processes-loop-p-preserved t c =
    let g : c.p-item.result ≡ get_or c.args.ps.now.items c.loop-p.p-index c.p-item.result = subst (λ us. c.p-item.result ≡ get_or us c.loop-p.p-index c.p-item.result) c.deref-p-items.ensures.value c.p-item.is in
    let i : c.loop-p.p-index < length c.args.ps.now.items = subst (λ us. c.loop-p.p-index < length us) c.deref-p-items.ensures.value c.loop-p-test.true in
    record {
      scope = c.in_ok-check_process.ensures.scope ∙ c.loop-p.invariant.scope;
      rules = rules-turn proc_written c.args.ps.now.items c.loop-p.p-index c.p-item.result _ _ outside outside outside i g c.loop-p.invariant.rules c.in_ok-check_process.ensures.rules c.in_ok-check_process.ensures.scope refl;
    }

pub check_processes-returns-clause-rules : goal.check_processes-returns-clause-rules
check_processes-returns-clause-rules t c = rules-end proc_written c.args.ps.now.items c.loop-p.p-index _ _ outside outside (subst (λ us. length us ≤ c.loop-p.p-index) c.deref-p-items.ensures.value c.loop-p-test.false) c.loop-p.invariant.scope c.loop-p.invariant.rules

pub check_processes-returns-clause-scope : goal.check_processes-returns-clause-scope
check_processes-returns-clause-scope t c = c.loop-p.invariant.scope

pub check_pairs-loop-p-preserved : goal.check_pairs-loop-p-preserved
check_pairs-loop-p-preserved t c =
    let g : c.p-item.result ≡ get_or c.args.ps.now.items c.loop-p.p-index c.p-item.result = subst (λ us. c.p-item.result ≡ get_or us c.loop-p.p-index c.p-item.result) c.deref-p-items.ensures.value c.p-item.is in
    let i : c.loop-p.p-index < length c.args.ps.now.items = subst (λ us. c.loop-p.p-index < length us) c.deref-p-items.ensures.value c.loop-p-test.true in
    record {
      scope = c.in_ok-check_process-2.ensures.scope ∙ c.in_ok-check_process.ensures.scope ∙ c.loop-p.invariant.scope;
      rules = rules-turn proc_pair c.args.ps.now.items c.loop-p.p-index c.p-item.result _ _ outside outside outside i g c.loop-p.invariant.rules (none-append _ _ c.in_ok-check_process.ensures.rules (none-append _ _ (subst (λ z. breaks (proc_written c.p-item.result.1) z outside ≡ []) c.in_ok-check_process.ensures.scope c.in_ok-check_process-2.ensures.rules) refl)) (c.in_ok-check_process-2.ensures.scope ∙ c.in_ok-check_process.ensures.scope) refl;
    }

pub check_pairs-returns-clause-rules : goal.check_pairs-returns-clause-rules
check_pairs-returns-clause-rules t c = rules-end proc_pair c.args.ps.now.items c.loop-p.p-index _ _ outside outside (subst (λ us. length us ≤ c.loop-p.p-index) c.deref-p-items.ensures.value c.loop-p-test.false) c.loop-p.invariant.scope c.loop-p.invariant.rules

pub check_pairs-returns-clause-scope : goal.check_pairs-returns-clause-scope
check_pairs-returns-clause-scope t c = c.loop-p.invariant.scope

pub check_cases-loop-case-preserved : goal.check_cases-loop-case-preserved
check_cases-loop-case-preserved t c =
    let g : c.case-item.result ≡ get_or c.args.cases.now.items c.loop-case.case-index c.case-item.result = subst (λ us. c.case-item.result ≡ get_or us c.loop-case.case-index c.case-item.result) c.deref-case-items.ensures.value c.case-item.is in
    let i : c.loop-case.case-index < length c.args.cases.now.items = subst (λ us. c.loop-case.case-index < length us) c.deref-case-items.ensures.value c.loop-case-test.true in
    record {
      scope = c.in_ok-check_case.ensures.scope ∙ c.loop-case.invariant.scope;
      rules = rules-turn case_written c.args.cases.now.items c.loop-case.case-index c.case-item.result _ _ outside outside outside i g c.loop-case.invariant.rules c.in_ok-check_case.ensures.rules c.in_ok-check_case.ensures.scope refl;
    }

pub check_cases-returns-clause-rules : goal.check_cases-returns-clause-rules
check_cases-returns-clause-rules t c = rules-end case_written c.args.cases.now.items c.loop-case.case-index _ _ outside outside (subst (λ us. length us ≤ c.loop-case.case-index) c.deref-case-items.ensures.value c.loop-case-test.false) c.loop-case.invariant.scope c.loop-case.invariant.rules

pub check_cases-returns-clause-scope : goal.check_cases-returns-clause-scope
check_cases-returns-clause-scope t c = c.loop-case.invariant.scope

pub check_binds-loop-b-preserved : goal.check_binds-loop-b-preserved
check_binds-loop-b-preserved t c =
    let g : c.b-item.result ≡ get_or c.args.binds.now.items c.loop-b.b-index c.b-item.result = subst (λ us. c.b-item.result ≡ get_or us c.loop-b.b-index c.b-item.result) c.deref-b-items.ensures.value c.b-item.is in
    let i : c.loop-b.b-index < length c.args.binds.now.items = subst (λ us. c.loop-b.b-index < length us) c.deref-b-items.ensures.value c.loop-b-test.true in
    let b = c.in_ok-check_bind.ensures.bound in
    record {
      scope = c.in_ok-check_bind.ensures.scope ∙ c.loop-b.invariant.scope;
      rules = rules-turn bind_written c.args.binds.now.items c.loop-b.b-index c.b-item.result _ _ (after c.args.bound.now false) (after c.loop-b.bound false) _ i g c.loop-b.invariant.rules c.in_ok-check_bind.ensures.rules c.in_ok-check_bind.ensures.scope (ap (λ o. after o false) b);
      bound = bound-turn bind_written c.args.binds.now.items c.loop-b.b-index c.b-item.result c.loop-b.bound _ _ i g b c.loop-b.invariant.bound;
    }

pub check_binds-returns-clause-rules : goal.check_binds-returns-clause-rules
check_binds-returns-clause-rules t c = rules-end bind_written c.args.binds.now.items c.loop-b.b-index _ _ (after c.args.bound.now false) (after c.loop-b.bound false) (subst (λ us. length us ≤ c.loop-b.b-index) c.deref-b-items.ensures.value c.loop-b-test.false) c.loop-b.invariant.scope c.loop-b.invariant.rules

pub check_binds-returns-clause-scope : goal.check_binds-returns-clause-scope
check_binds-returns-clause-scope t c = c.loop-b.invariant.scope

pub check_binds-returns-clause-bound : goal.check_binds-returns-clause-bound
check_binds-returns-clause-bound t c = bound-end bind_written c.args.binds.now.items c.loop-b.b-index c.loop-b.bound _ (subst (λ us. length us ≤ c.loop-b.b-index) c.deref-b-items.ensures.value c.loop-b-test.false) c.loop-b.invariant.bound

pub check_patterns-loop-p-preserved : goal.check_patterns-loop-p-preserved
check_patterns-loop-p-preserved t c =
    let g : c.p-item.result ≡ get_or c.args.ps.now.items c.loop-p.p-index c.p-item.result = subst (λ us. c.p-item.result ≡ get_or us c.loop-p.p-index c.p-item.result) c.deref-p-items.ensures.value c.p-item.is in
    let i : c.loop-p.p-index < length c.args.ps.now.items = subst (λ us. c.loop-p.p-index < length us) c.deref-p-items.ensures.value c.loop-p-test.true in
    let b = c.in_ok-check_pattern.ensures.bound in
    record {
      scope = c.in_ok-check_pattern.ensures.scope ∙ c.loop-p.invariant.scope;
      rules = rules-turn pat_written c.args.ps.now.items c.loop-p.p-index c.p-item.result _ _ (after c.args.bound.now c.args.negated) (after c.loop-p.bound c.args.negated) _ i g c.loop-p.invariant.rules c.in_ok-check_pattern.ensures.rules c.in_ok-check_pattern.ensures.scope (ap (λ o. after o c.args.negated) b);
      bound = bound-turn pat_written c.args.ps.now.items c.loop-p.p-index c.p-item.result c.loop-p.bound _ _ i g b c.loop-p.invariant.bound;
    }

pub check_patterns-returns-clause-rules : goal.check_patterns-returns-clause-rules
check_patterns-returns-clause-rules t c = rules-end pat_written c.args.ps.now.items c.loop-p.p-index _ _ (after c.args.bound.now c.args.negated) (after c.loop-p.bound c.args.negated) (subst (λ us. length us ≤ c.loop-p.p-index) c.deref-p-items.ensures.value c.loop-p-test.false) c.loop-p.invariant.scope c.loop-p.invariant.rules

pub check_patterns-returns-clause-scope : goal.check_patterns-returns-clause-scope
check_patterns-returns-clause-scope t c = c.loop-p.invariant.scope

pub check_patterns-returns-clause-bound : goal.check_patterns-returns-clause-bound
check_patterns-returns-clause-bound t c = bound-end pat_written c.args.ps.now.items c.loop-p.p-index c.loop-p.bound _ (subst (λ us. length us ≤ c.loop-p.p-index) c.deref-p-items.ensures.value c.loop-p-test.false) c.loop-p.invariant.bound

pub check_name_patterns-loop-p-preserved : goal.check_name_patterns-loop-p-preserved
check_name_patterns-loop-p-preserved t c =
    let g : c.p-item.result ≡ get_or c.args.ps.now.items c.loop-p.p-index c.p-item.result = subst (λ us. c.p-item.result ≡ get_or us c.loop-p.p-index c.p-item.result) c.deref-p-items.ensures.value c.p-item.is in
    let i : c.loop-p.p-index < length c.args.ps.now.items = subst (λ us. c.loop-p.p-index < length us) c.deref-p-items.ensures.value c.loop-p-test.true in
    let b = c.in_ok-check_name_pattern.ensures.bound in
    record {
      scope = c.in_ok-check_name_pattern.ensures.scope ∙ c.loop-p.invariant.scope;
      rules = rules-turn name_pat_written c.args.ps.now.items c.loop-p.p-index c.p-item.result _ _ (after c.args.bound.now c.args.negated) (after c.loop-p.bound c.args.negated) _ i g c.loop-p.invariant.rules c.in_ok-check_name_pattern.ensures.rules c.in_ok-check_name_pattern.ensures.scope (ap (λ o. after o c.args.negated) b);
      bound = bound-turn name_pat_written c.args.ps.now.items c.loop-p.p-index c.p-item.result c.loop-p.bound _ _ i g b c.loop-p.invariant.bound;
    }

pub check_name_patterns-returns-clause-rules : goal.check_name_patterns-returns-clause-rules
check_name_patterns-returns-clause-rules t c = rules-end name_pat_written c.args.ps.now.items c.loop-p.p-index _ _ (after c.args.bound.now c.args.negated) (after c.loop-p.bound c.args.negated) (subst (λ us. length us ≤ c.loop-p.p-index) c.deref-p-items.ensures.value c.loop-p-test.false) c.loop-p.invariant.scope c.loop-p.invariant.rules

pub check_name_patterns-returns-clause-scope : goal.check_name_patterns-returns-clause-scope
check_name_patterns-returns-clause-scope t c = c.loop-p.invariant.scope

pub check_name_patterns-returns-clause-bound : goal.check_name_patterns-returns-clause-bound
check_name_patterns-returns-clause-bound t c = bound-end name_pat_written c.args.ps.now.items c.loop-p.p-index c.loop-p.bound _ (subst (λ us. length us ≤ c.loop-p.p-index) c.deref-p-items.ensures.value c.loop-p-test.false) c.loop-p.invariant.bound

pub check_pattern_pairs-loop-p-preserved : goal.check_pattern_pairs-loop-p-preserved
check_pattern_pairs-loop-p-preserved t c =
    let g : c.p-item.result ≡ get_or c.args.ps.now.items c.loop-p.p-index c.p-item.result = subst (λ us. c.p-item.result ≡ get_or us c.loop-p.p-index c.p-item.result) c.deref-p-items.ensures.value c.p-item.is in
    let i : c.loop-p.p-index < length c.args.ps.now.items = subst (λ us. c.loop-p.p-index < length us) c.deref-p-items.ensures.value c.loop-p-test.true in
    let b = (c.in_ok-check_pattern-2.ensures.bound ∙ ap (inside (variables (pat_written c.p-item.result.1))) c.in_ok-check_pattern.ensures.bound ∙ sym (inside-two (variables (pat_written c.p-item.result.0)) (variables (pat_written c.p-item.result.1)) c.loop-p.bound)) in
    record {
      scope = c.in_ok-check_pattern-2.ensures.scope ∙ c.in_ok-check_pattern.ensures.scope ∙ c.loop-p.invariant.scope;
      rules = rules-turn pat_pair c.args.ps.now.items c.loop-p.p-index c.p-item.result _ _ (after c.args.bound.now c.args.negated) (after c.loop-p.bound c.args.negated) _ i g c.loop-p.invariant.rules (none-append _ _ c.in_ok-check_pattern.ensures.rules (none-append _ _ (subst (λ o. breaks (pat_written c.p-item.result.1) c.loop-p.scope (after o c.args.negated) ≡ []) c.in_ok-check_pattern.ensures.bound (subst (λ z. breaks (pat_written c.p-item.result.1) z (after c.check_pattern.new.bound c.args.negated) ≡ []) c.in_ok-check_pattern.ensures.scope c.in_ok-check_pattern-2.ensures.rules)) refl)) (c.in_ok-check_pattern-2.ensures.scope ∙ c.in_ok-check_pattern.ensures.scope) (ap (λ o. after o c.args.negated) b);
      bound = bound-turn pat_pair c.args.ps.now.items c.loop-p.p-index c.p-item.result c.loop-p.bound _ _ i g b c.loop-p.invariant.bound;
    }

pub check_pattern_pairs-returns-clause-rules : goal.check_pattern_pairs-returns-clause-rules
check_pattern_pairs-returns-clause-rules t c = rules-end pat_pair c.args.ps.now.items c.loop-p.p-index _ _ (after c.args.bound.now c.args.negated) (after c.loop-p.bound c.args.negated) (subst (λ us. length us ≤ c.loop-p.p-index) c.deref-p-items.ensures.value c.loop-p-test.false) c.loop-p.invariant.scope c.loop-p.invariant.rules

pub check_pattern_pairs-returns-clause-scope : goal.check_pattern_pairs-returns-clause-scope
check_pattern_pairs-returns-clause-scope t c = c.loop-p.invariant.scope

pub check_pattern_pairs-returns-clause-bound : goal.check_pattern_pairs-returns-clause-bound
check_pattern_pairs-returns-clause-bound t c = bound-end pat_pair c.args.ps.now.items c.loop-p.p-index c.loop-p.bound _ (subst (λ us. length us ≤ c.loop-p.p-index) c.deref-p-items.ensures.value c.loop-p-test.false) c.loop-p.invariant.bound
