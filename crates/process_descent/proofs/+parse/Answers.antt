use Rattle.form_ends.proofs.Chains.{call_gone_on, joint_as, joints_begun, joints_gone_on, level_begun, level_gone_on, not_as}
use Rattle.form_ends.proofs.Carried.{stayed}
use Rattle.calculus.specs.Meaning.{case_written, declared, pat_written, proc_written}
use Rattle.grammar.specs.Descent.{no_next, runs_last, runs_sign}
use Rattle.grammar.specs.Grammar.{rule}
use Rattle.grammar.specs.Productions.{Prod}
use Rattle.grammar.specs.Rules.{Sort, done, last, sign}
use Rattle.grammar.specs.Values.{bundle_of, drop_of, new_of, not_of, opened, patterns, processes, quote_of, quoted_of, same_of, spelt, unary_of}
use Rattle.grammar.specs.declared.dialect.Dialect.TheVariants.{Tutorial}
use Rattle.grammar.specs.Terminals.{sees}
use Rattle.grammar.specs.declared.mark.Mark.TheVariants.{CloseBrace, Comma, OpenBrace}
use Rattle.form_steps.specs.Parts.{HasRoomForPart, HasRoomForTerm, PassesPart, PassesTerm, after_key, after_part_step, after_term_step, form_sort}
use Rattle.form_steps.specs.declared.step.FormKey.TheVariants.{Contract, If}
use Rattle.form_steps.specs.Steps.{HasRoomAfter, HasRoomFor, HasRoomForPattern, Passes, PassesOperator, PassesPattern, after_operator, after_pattern_step, after_process_step, member_patterns_of, members_of}
use Rattle.form_steps.proofs.Handed.{at_read, if_read, resume, under_read}
use Rattle.form_steps.proofs.Turning.{as_rule, built}
use Rattle.form_ends.proofs.Choices.{cases_end, cases_go_on, group_ended, group_tupled, name_at, name_plain, pattern_name_at, pattern_name_plain, row_empty, sequence_empty, sequence_rest}
use Rattle.form_ends.proofs.Forms.{arms_ended, arms_read, bind_read, binds_closed, binds_go_on, case_begun, case_read, contract_begun, contract_named, contract_read, first_bind, for_begun, no_bind, receive_read, test_read, with_else}
use Rattle.form_ends.proofs.Lists.{left_first, left_goes_on, par_ended, par_first, par_goes_on, row_ended, row_first, row_goes_on, sequence_first, sequence_goes_on}
use Rattle.form_ends.proofs.Pairs.{block_closed, block_ended, block_first, block_goes_on, no_pair, pair_read, pattern_block_closed, pattern_block_first, pattern_block_goes_on}
use Rattle.form_ends.proofs.Kept.{both_room}
use Rattle.form_ends.proofs.Lengths.{both_grow, grows, if_same, no_longer, none_given, under_free}
use Rattle.form_ends.proofs.Processes.{fits, no_cases_yet}
use Rattle.form_ends.specs.Reading.{after_form_step}
use Rattle.form_ends.proofs.Cycle.{at_step, level_as, prefix_as, unmoved}
use Rattle.token_cursor.proofs.Steps.{gives_up}
use Rattle.token_cursor.specs.Reading.{bracket_of, of_pat, of_proc, of_row, of_sequence, sees_member, separator_of}
use Rattle.std.proofs.Common.{Err, Ok, OnOk, [], arith, false, map, refl, subst, sym, ◌-◌, ◌∙◌, ◌≡◌, ◌≤◌}
use Rattle.process_descent.proofs.Further.{beneath, down, falls, lower, no_more, pattern_name_any, ranked, sunk, target_read, under}
use Rattle.process_descent.proofs.+parse.Goals as goal

pub process::par-one-first-requires : goal.process::par-one-first-requires
process::par-one-first-requires t c = (lower _ _ _ c.decreases refl, tt)

pub process::par-one-next-requires : goal.process::par-one-next-requires
process::par-one-next-requires t c = (sunk _ _ c.decreases (beneath c.each.invariant.shorter ((c.skip_after.ensures.less c.each-test.true))) refl, tt)

pub process::par-each-init : goal.process::par-each-init
process::par-each-init t c = record { turns = par_first _ _ processes proc_written _ c.one-first.ensures.reads c.first_of-parts.ensures.reads; room = c.first_of-parts.ensures.room _ c.one-first.ensures.room; shorter = c.one-first.ensures.shorter }

pub process::par-each-preserved : goal.process::par-each-preserved
process::par-each-preserved t c = record { turns = par_goes_on _ _ _ c.each.parts _ _ processes proc_written (c.skip_after.ensures.after c.each-test.true) (c.skip_after.ensures.is c.each-test.true) (c.skip_after.ensures.takes c.each-test.true) c.each.invariant.turns c.one-next.ensures.reads c.then_one_more-parts.ensures.reads; room = c.then_one_more-parts.ensures.room _ c.each.invariant.room c.one-next.ensures.room; shorter = down c.each.invariant.shorter (down c.skip_after.ensures.shorter c.one-next.ensures.shorter) }

pub process::par-each-smaller : goal.process::par-each-smaller
process::par-each-smaller t c = under (c.skip_after.ensures.less c.each-test.true) (c.one-next.ensures.shorter)

pub process::par-returns : goal.process::par-returns
process::par-returns t c = record { reads = c.composed.ensures.reads _ _ _ _ (stayed c.args.free _ _ _ c.each.parts (c.skip_after.ensures.stays c.each-test.false) (par_ended c.args.free _ _ _ c.each.parts processes proc_written (c.skip_after.ensures.ends c.each-test.false) c.each.invariant.turns)); room = c.composed.ensures.room _ c.each.invariant.room; shorter = down c.each.invariant.shorter c.skip_after.ensures.shorter }

pub process::one-form-requires : goal.process::one-form-requires
process::one-form-requires t c = (lower _ _ _ c.decreases refl, tt)

pub process::one-two-requires : goal.process::one-two-requires
process::one-two-requires t c = (lower _ _ _ c.decreases refl, tt)

pub process::one-returns-in-None : goal.process::one-returns-in-None
process::one-returns-in-None t c = record { reads = as_rule _ _ c.in-None.ensures (runs_last c.two.ensures.reads); room = c.two.ensures.room; shorter = c.two.ensures.shorter }

pub process::one-returns-in-Some : goal.process::one-returns-in-Some
process::one-returns-in-Some t c = record { reads = as_rule _ _ c.in-Some.ensures (runs_last c.form.ensures.reads); room = c.form.ensures.room; shorter = c.form.ensures.shorter }

pub process::two-overflow_sub-free : goal.process::two-overflow_sub-free
process::two-overflow_sub-free t c = subst (HasRoomForTerm c.args.free) c.in-Ok-Bundle.field-0-is c.in-Ok-Bundle.ensures.room

pub process::two-overflow_sub-below : goal.process::two-overflow_sub-below
process::two-overflow_sub-below t c = subst (HasRoomForTerm c.args.free) c.in-Ok-Quoted.field-0-is c.in-Ok-Quoted.ensures.room

pub process::two-overflow_sub-free-in-Ok-Send : goal.process::two-overflow_sub-free-in-Ok-Send
process::two-overflow_sub-free-in-Ok-Send t c =
    let m = subst (HasRoomForTerm c.args.free) c.in-Ok-Send.field-0-is c.in-Ok-Send.ensures.room in
    omega (arith, m)

pub process::two-close_bundle-requires : goal.process::two-close_bundle-requires
process::two-close_bundle-requires t c = grows _ c.par-body.ensures.room (omega (arith, c.ranges.free))

pub process::two-sent-requires : goal.process::two-sent-requires
process::two-sent-requires t c =
    let m = subst (HasRoomForTerm c.args.free) c.in-Ok-Quoted.field-0-is c.in-Ok-Quoted.ensures.room in
    let h = c.in-Ok.ensures.room c.args.free (under_free _ c.drop_form-quoted.ensures.room m) in
    record { channel = omega (arith, h, c.ranges.free); args = grows _ c.row-args.ensures.room (omega (arith, c.ranges.free)) }

pub process::two-form-requires : goal.process::two-form-requires
process::two-form-requires t c =
    let s = subst (PassesTerm _ _) c.in-Ok-Form.field-0-is c.in-Ok-Form.ensures.shorter in
    (ranked _ _ c.decreases s refl, tt)

pub process::two-par-body-requires : goal.process::two-par-body-requires
process::two-par-body-requires t c =
    let s = subst (PassesTerm _ _) c.in-Ok-Bundle.field-0-is c.in-Ok-Bundle.ensures.shorter in
    (sunk _ _ c.decreases s refl, tt)

pub process::two-drop_form-quoted-requires : goal.process::two-drop_form-quoted-requires
process::two-drop_form-quoted-requires t c =
    let s = subst (PassesTerm _ _) c.in-Ok-Quoted.field-0-is c.in-Ok-Quoted.ensures.shorter in
    (sunk _ _ c.decreases s refl, tt)

pub process::two-row-args-requires : goal.process::two-row-args-requires
process::two-row-args-requires t c =
    let s = subst (PassesTerm _ _) c.in-Ok-Quoted.field-0-is c.in-Ok-Quoted.ensures.shorter in
    (sunk _ _ c.decreases (under s (down c.drop_form-quoted.ensures.shorter (c.in-Ok.ensures.shorter))) refl, tt)

pub process::two-row-args-requires-in-Ok-Send : goal.process::two-row-args-requires-in-Ok-Send
process::two-row-args-requires-in-Ok-Send t c =
    let s = subst (PassesTerm _ _) c.in-Ok-Send.field-0-is c.in-Ok-Send.ensures.shorter in
    (sunk _ _ c.decreases s refl, tt)

pub process::two-level-requires : goal.process::two-level-requires
process::two-level-requires t c =
    let s = subst (PassesTerm _ _) c.in-Ok-Chain.field-0-is c.in-Ok-Chain.ensures.shorter in
    (ranked _ _ c.decreases s refl, tt)

pub process::two-sent-requires-in-Ok-Send : goal.process::two-sent-requires-in-Ok-Send
process::two-sent-requires-in-Ok-Send t c =
    let m = subst (HasRoomForTerm c.args.free) c.in-Ok-Send.field-0-is c.in-Ok-Send.ensures.room in
    record { channel = omega (arith, m, c.ranges.free); args = grows _ c.row-args-in-Ok-Send.ensures.room (omega (arith, c.ranges.free)) }

pub process::two-returns-in-Err : goal.process::two-returns-in-Err
process::two-returns-in-Err t c = record { reads = c.in-Err.ensures.reads; room = tt; shorter = c.in-Err.ensures.shorter }

pub process::two-returns-in-Ok-Bundle : goal.process::two-returns-in-Ok-Bundle
process::two-returns-in-Ok-Bundle t c =
    let r = at_step after_term_step _ _ c.in-Ok-Bundle.field-0-is c.in-Ok-Bundle.ensures.reads in
    let m = subst (HasRoomForTerm c.args.free) c.in-Ok-Bundle.field-0-is c.in-Ok-Bundle.ensures.room in
    let s = subst (PassesTerm _ _) c.in-Ok-Bundle.field-0-is c.in-Ok-Bundle.ensures.shorter in
    record { reads = r _ (c.close_bundle.ensures.reads _ _ _ (under_read _ _ _ of_proc (λ a. sign CloseBrace (done (opened (bundle_of processes c.in-Ok-Bundle.rights a.tree) a.height))) _ c.par-body.ensures.reads)); room = c.close_bundle.ensures.room c.args.free (under_free _ c.par-body.ensures.room m); shorter = down (falls s) (down c.par-body.ensures.shorter c.close_bundle.ensures.shorter) }

pub process::two-returns-in-Ok-Chain : goal.process::two-returns-in-Ok-Chain
process::two-returns-in-Ok-Chain t c =
    let r = at_step after_term_step _ _ c.in-Ok-Chain.field-0-is c.in-Ok-Chain.ensures.reads in
    let s = subst (PassesTerm _ _) c.in-Ok-Chain.field-0-is c.in-Ok-Chain.ensures.shorter in
    record { reads = r _ (runs_last c.level.ensures.reads); room = c.level.ensures.room; shorter = down s c.level.ensures.shorter }

pub process::two-returns-in-Ok-Form : goal.process::two-returns-in-Ok-Form
process::two-returns-in-Ok-Form t c =
    let r = at_step after_term_step _ _ c.in-Ok-Form.field-0-is c.in-Ok-Form.ensures.reads in
    let s = subst (PassesTerm _ _) c.in-Ok-Form.field-0-is c.in-Ok-Form.ensures.shorter in
    record { reads = r _ (runs_last c.form.ensures.reads); room = c.form.ensures.room; shorter = down s c.form.ensures.shorter }

pub process::two-returns-in-Err-quoted_send : goal.process::two-returns-in-Err-quoted_send
process::two-returns-in-Err-quoted_send t c =
    let r = at_step after_term_step _ _ c.in-Ok-Quoted.field-0-is c.in-Ok-Quoted.ensures.reads in
    let m = subst (HasRoomForTerm c.args.free) c.in-Ok-Quoted.field-0-is c.in-Ok-Quoted.ensures.room in
    let s = subst (PassesTerm _ _) c.in-Ok-Quoted.field-0-is c.in-Ok-Quoted.ensures.shorter in
    record { reads = r _ (c.in-Err-quoted_send.ensures.reads _ _ _ (under_read _ _ _ of_proc (λ a. last (Sort.SentTail processes (spelt (quote_of a.tree) a.height))) _ c.drop_form-quoted.ensures.reads)); room = tt; shorter = down (falls s) (down c.drop_form-quoted.ensures.shorter c.in-Err-quoted_send.ensures.shorter) }

pub process::two-returns-in-Ok : goal.process::two-returns-in-Ok
process::two-returns-in-Ok t c =
    let r = at_step after_term_step _ _ c.in-Ok-Quoted.field-0-is c.in-Ok-Quoted.ensures.reads in
    let m = subst (HasRoomForTerm c.args.free) c.in-Ok-Quoted.field-0-is c.in-Ok-Quoted.ensures.room in
    let s = subst (PassesTerm _ _) c.in-Ok-Quoted.field-0-is c.in-Ok-Quoted.ensures.shorter in
    let h = c.in-Ok.ensures.room c.args.free (under_free _ c.drop_form-quoted.ensures.room m) in
    record { reads = r _ (c.in-Ok.ensures.reads _ _ _ (under_read _ _ _ of_proc (λ a. last (Sort.SentTail processes (spelt (quote_of a.tree) a.height))) _ c.drop_form-quoted.ensures.reads) _ (c.sent.ensures.reads _ _ _ c.row-args.ensures.reads)); room = c.sent.ensures.room c.args.free h (under_free _ c.row-args.ensures.room (omega (arith, h))); shorter = down (falls s) (down c.drop_form-quoted.ensures.shorter (down c.in-Ok.ensures.shorter c.row-args.ensures.shorter)) }

pub process::two-returns-in-Ok-Send : goal.process::two-returns-in-Ok-Send
process::two-returns-in-Ok-Send t c =
    let r = at_step after_term_step _ _ c.in-Ok-Send.field-0-is c.in-Ok-Send.ensures.reads in
    let m = subst (HasRoomForTerm c.args.free) c.in-Ok-Send.field-0-is c.in-Ok-Send.ensures.room in
    let s = subst (PassesTerm _ _) c.in-Ok-Send.field-0-is c.in-Ok-Send.ensures.shorter in
    record { reads = r _ (c.sent-in-Ok-Send.ensures.reads _ _ _ c.row-args-in-Ok-Send.ensures.reads); room = c.sent-in-Ok-Send.ensures.room c.args.free m (under_free _ c.row-args-in-Ok-Send.ensures.room (omega (arith, m))); shorter = down (falls s) c.row-args-in-Ok-Send.ensures.shorter }

pub form::form-overflow_sub-free : goal.form::form-overflow_sub-free
form::form-overflow_sub-free t c = c.in-Ok-New.ensures.room

pub form::form-new_with_body-requires : goal.form::form-new_with_body-requires
form::form-new_with_body-requires t c = grows _ c.one-body.ensures.room (omega (arith, c.ranges.free))

pub form::form-receive-requires : goal.form::form-receive-requires
form::form-receive-requires t c = omega (arith, c.in-Ok-For.ensures.room, c.in-Ok-For.ensures.shorter)

pub form::form-matching-requires : goal.form::form-matching-requires
form::form-matching-requires t c = omega (arith, c.in-Ok-Match.ensures.room, c.in-Ok-Match.ensures.shorter)

pub form::form-branches-requires : goal.form::form-branches-requires
form::form-branches-requires t c = omega (arith, c.in-Ok-If.ensures.room, c.in-Ok-If.ensures.shorter)

pub form::form-contract-requires : goal.form::form-contract-requires
form::form-contract-requires t c = omega (arith, c.in-Ok-Contract.ensures.room, c.in-Ok-Contract.ensures.shorter)

pub form::form-one-body-requires : goal.form::form-one-body-requires
form::form-one-body-requires t c = (sunk _ _ c.decreases c.in-Ok-New.ensures.shorter refl, tt)

pub form::form-returns-in-Err : goal.form::form-returns-in-Err
form::form-returns-in-Err t c = record { reads = c.in-Err.ensures.reads; room = tt; shorter = c.in-Err.ensures.shorter }

pub form::form-returns-in-Ok-New : goal.form::form-returns-in-Ok-New
form::form-returns-in-Ok-New t c =
    let k = at_step after_form_step _ _ c.in-Ok-New.field-0-is c.in-Ok-New.ensures.reads in
    record { reads = c.new_with_body.ensures.reads _ _ _ _ (resume _ (λ p. done (opened (new_of (map declared c.in-Ok-New.names.items) (of_proc p).tree) p.height)) _ k (under_read _ _ _ of_proc (λ p. done (opened (new_of (map declared c.in-Ok-New.names.items) p.tree) p.height)) _ c.one-body.ensures.reads)); room = c.new_with_body.ensures.room c.args.free (under_free _ c.one-body.ensures.room c.in-Ok-New.ensures.room); shorter = down (falls c.in-Ok-New.ensures.shorter) c.one-body.ensures.shorter }

pub form::form-returns-in-Ok-For : goal.form::form-returns-in-Ok-For
form::form-returns-in-Ok-For t c =
    let k = at_step after_form_step _ _ c.in-Ok-For.field-0-is c.in-Ok-For.ensures.reads in
    record { reads = k _ c.receive.ensures.reads; room = c.receive.ensures.room; shorter = down (falls c.in-Ok-For.ensures.shorter) c.receive.ensures.shorter }

pub form::form-returns-in-Ok-Match : goal.form::form-returns-in-Ok-Match
form::form-returns-in-Ok-Match t c =
    let k = at_step after_form_step _ _ c.in-Ok-Match.field-0-is c.in-Ok-Match.ensures.reads in
    record { reads = k _ c.matching.ensures.reads; room = c.matching.ensures.room; shorter = down (falls c.in-Ok-Match.ensures.shorter) c.matching.ensures.shorter }

pub form::form-returns-in-Ok-If : goal.form::form-returns-in-Ok-If
form::form-returns-in-Ok-If t c =
    let k = at_step after_form_step _ _ c.in-Ok-If.field-0-is c.in-Ok-If.ensures.reads in
    record { reads = k _ c.branches.ensures.reads; room = c.branches.ensures.room; shorter = down (falls c.in-Ok-If.ensures.shorter) c.branches.ensures.shorter }

pub form::form-returns-in-Ok-Contract : goal.form::form-returns-in-Ok-Contract
form::form-returns-in-Ok-Contract t c =
    let k = at_step after_form_step _ _ c.in-Ok-Contract.field-0-is c.in-Ok-Contract.ensures.reads in
    record { reads = k _ c.contract.ensures.reads; room = c.contract.ensures.room; shorter = down (falls c.in-Ok-Contract.ensures.shorter) c.contract.ensures.shorter }

pub form::branches-overflow_sub-below : goal.form::branches-overflow_sub-below
form::branches-overflow_sub-below t c = c.requires

pub form::branches-if_without_else-requires : goal.form::branches-if_without_else-requires
form::branches-if_without_else-requires t c =
    let e = if_read (λ p. p.height ≤ c.args.free - 1) _ c.in-Ok.ensures.same c.par-condition.ensures.room in
    both_grow _ (both_room c.args.free c.in-Ok.test _ _ c.both-arms.ensures (omega (arith, e, c.requires)) (under_free _ c.two.ensures.room c.requires)) (omega (arith, c.ranges.free))

pub form::branches-if_with_else-requires : goal.form::branches-if_with_else-requires
form::branches-if_with_else-requires t c =
    let e = if_read (λ p. p.height ≤ c.args.free - 1) _ c.in-Ok.ensures.same c.par-condition.ensures.room in
    record { arms = both_grow _ (both_room c.args.free c.in-Ok.test _ _ c.both-arms.ensures (omega (arith, e, c.requires)) (under_free _ c.two.ensures.room c.requires)) (omega (arith, c.ranges.free)); no = grows _ c.one-other.ensures.room (omega (arith, c.ranges.free)) }

pub form::branches-par-condition-requires : goal.form::branches-par-condition-requires
form::branches-par-condition-requires t c = (lower _ _ _ c.decreases refl, tt)

pub form::branches-two-requires : goal.form::branches-two-requires
form::branches-two-requires t c = (sunk _ _ c.decreases (beneath c.par-condition.ensures.shorter (c.in-Ok.ensures.shorter)) refl, tt)

pub form::branches-one-other-requires : goal.form::branches-one-other-requires
form::branches-one-other-requires t c = (sunk _ _ c.decreases (beneath c.par-condition.ensures.shorter (under c.in-Ok.ensures.shorter (down c.two.ensures.shorter (c.skip_after.ensures.shorter)))) refl, tt)

pub form::branches-returns-in-Err : goal.form::branches-returns-in-Err
form::branches-returns-in-Err t c = record { reads = test_read _ _ _ (Err c.in-Err.fault) (λ out h. h) c.par-condition.ensures.reads c.in-Err.ensures.reads; room = tt; shorter = down c.par-condition.ensures.shorter c.in-Err.ensures.shorter }

pub form::branches-returns-then-not-skip_after : goal.form::branches-returns-then-not-skip_after
form::branches-returns-then-not-skip_after t c =
    let e = if_read (λ p. p.height ≤ c.args.free - 1) _ c.in-Ok.ensures.same c.par-condition.ensures.room in
    let a = both_room c.args.free c.in-Ok.test _ _ c.both-arms.ensures (omega (arith, e, c.requires)) (under_free _ c.two.ensures.room c.requires) in
    record { reads = c.if_without_else.ensures.reads _ _ _ _ (arms_ended c.args.free (after_key If) _ c.both-arms.result (c.skip_after.ensures.stays c.if-not-skip_after.true) (c.skip_after.ensures.ends c.if-not-skip_after.true) (arms_read {r = after_key If} _ _ c.in-Ok.test c.both-arms.result (test_read _ _ _ (Ok c.in-Ok.test) (λ out h. h) c.par-condition.ensures.reads c.in-Ok.ensures.reads) c.two.ensures.reads c.both-arms.ensures)); room = c.if_without_else.ensures.room c.args.free a; shorter = down c.par-condition.ensures.shorter (down (falls c.in-Ok.ensures.shorter) (down c.two.ensures.shorter c.skip_after.ensures.shorter)) }

pub form::branches-returns : goal.form::branches-returns
form::branches-returns t c =
    let e = if_read (λ p. p.height ≤ c.args.free - 1) _ c.in-Ok.ensures.same c.par-condition.ensures.room in
    let a = both_room c.args.free c.in-Ok.test _ _ c.both-arms.ensures (omega (arith, e, c.requires)) (under_free _ c.two.ensures.room c.requires) in
    record { reads = with_else (after_key If) _ _ _ c.both-arms.result (c.skip_after.ensures.after c.if-not-skip_after.false) (c.skip_after.ensures.is c.if-not-skip_after.false) (c.skip_after.ensures.takes c.if-not-skip_after.false) (arms_read {r = after_key If} _ _ c.in-Ok.test c.both-arms.result (test_read _ _ _ (Ok c.in-Ok.test) (λ out h. h) c.par-condition.ensures.reads c.in-Ok.ensures.reads) c.two.ensures.reads c.both-arms.ensures) c.one-other.ensures.reads c.if_with_else.ensures.reads; room = c.if_with_else.ensures.room c.args.free a (under_free _ c.one-other.ensures.room c.requires); shorter = down c.par-condition.ensures.shorter (down (falls c.in-Ok.ensures.shorter) (down c.two.ensures.shorter (down c.skip_after.ensures.shorter c.one-other.ensures.shorter))) }

pub form::contract-overflow_sub-below : goal.form::contract-overflow_sub-below
form::contract-overflow_sub-below t c = c.requires

pub form::contract-contract_with_body-requires : goal.form::contract-contract_with_body-requires
form::contract-contract_with_body-requires t c =
    let n : c.in-Ok.name.height ≤ c.args.free - 1 = if_read (λ p. p.height ≤ c.args.free - 1) _ c.in-Ok.ensures.same c.name-channel.ensures.room in
    let h = c.in-Ok-contract_head.ensures.room c.args.free (omega (arith, n, c.requires)) (under_free _ c.left-left.ensures.room c.requires) in
    record { name = omega (arith, h.0, c.ranges.free); left = omega (arith, h.1, c.ranges.free); body = grows _ c.one-body.ensures.room (omega (arith, c.ranges.free)) }

pub form::contract-name-channel-requires : goal.form::contract-name-channel-requires
form::contract-name-channel-requires t c = (lower _ _ _ c.decreases refl, tt)

pub form::contract-left-left-requires : goal.form::contract-left-left-requires
form::contract-left-left-requires t c = (sunk _ _ c.decreases (beneath c.name-channel.ensures.shorter (c.in-Ok.ensures.shorter)) refl, tt)

pub form::contract-one-body-requires : goal.form::contract-one-body-requires
form::contract-one-body-requires t c = (sunk _ _ c.decreases (beneath c.name-channel.ensures.shorter (under c.in-Ok.ensures.shorter (down c.left-left.ensures.shorter (c.in-Ok-contract_head.ensures.shorter)))) refl, tt)

pub form::contract-returns-in-Err : goal.form::contract-returns-in-Err
form::contract-returns-in-Err t c = record { reads = contract_named _ _ _ (Err c.in-Err.fault) (λ out h. h) c.name-channel.ensures.reads c.in-Err.ensures.reads; room = tt; shorter = down c.name-channel.ensures.shorter c.in-Err.ensures.shorter }

pub form::contract-returns-in-Err-contract_head : goal.form::contract-returns-in-Err-contract_head
form::contract-returns-in-Err-contract_head t c = record { reads = contract_begun _ _ _ _ _ c.in-Ok.name (Err c.in-Err-contract_head.fault) (λ out h. h) c.name-channel.ensures.reads c.in-Ok.ensures.reads c.left-left.ensures.reads c.in-Err-contract_head.ensures.reads; room = tt; shorter = down c.name-channel.ensures.shorter (down (falls c.in-Ok.ensures.shorter) (down c.left-left.ensures.shorter c.in-Err-contract_head.ensures.shorter)) }

pub form::contract-returns : goal.form::contract-returns
form::contract-returns t c =
    let n : c.in-Ok.name.height ≤ c.args.free - 1 = if_read (λ p. p.height ≤ c.args.free - 1) _ c.in-Ok.ensures.same c.name-channel.ensures.room in
    let h = c.in-Ok-contract_head.ensures.room c.args.free (omega (arith, n, c.requires)) (under_free _ c.left-left.ensures.room c.requires) in
    record { reads = contract_read _ _ _ c.in-Ok-contract_head.head (contract_begun {r = after_key Contract} _ _ _ _ _ c.in-Ok.name (Ok c.in-Ok-contract_head.head) (λ out h. h) c.name-channel.ensures.reads c.in-Ok.ensures.reads c.left-left.ensures.reads c.in-Ok-contract_head.ensures.reads) c.one-body.ensures.reads c.contract_with_body.ensures.reads; room = c.contract_with_body.ensures.room c.args.free h.0 h.1 (under_free _ c.one-body.ensures.room c.requires); shorter = down c.name-channel.ensures.shorter (down (falls c.in-Ok.ensures.shorter) (down c.left-left.ensures.shorter (down c.in-Ok-contract_head.ensures.shorter c.one-body.ensures.shorter))) }

pub form::receive-overflow_sub-below : goal.form::receive-overflow_sub-below
form::receive-overflow_sub-below t c = c.requires

pub form::receive-close_receive-requires : goal.form::receive-close_receive-requires
form::receive-close_receive-requires t c =
    let n : c.in-Ok-then_marks.head.height ≤ c.args.free - 1 = if_read (λ bs. bs.height ≤ c.args.free - 1) _ c.in-Ok-then_marks.ensures.same c.binds.invariant.room in
    record { binds = omega (arith, n, c.requires, c.ranges.free); body = grows _ c.par-body.ensures.room (omega (arith, c.ranges.free)) }

pub form::receive-par-body-requires : goal.form::receive-par-body-requires
form::receive-par-body-requires t c = omega (arith, c.binds.invariant.shorter, c.skip_separator_after.ensures.shorter, c.in-Ok-then_marks.ensures.shorter)

pub form::receive-left-pats-requires : goal.form::receive-left-pats-requires
form::receive-left-pats-requires t c = (lower _ _ _ c.decreases refl, tt)

pub form::receive-name-requires : goal.form::receive-name-requires
form::receive-name-requires t c = (sunk _ _ c.decreases (beneath c.left-pats.ensures.shorter (c.in-Ok.ensures.shorter)) refl, tt)

pub form::receive-left-found-requires : goal.form::receive-left-found-requires
form::receive-left-found-requires t c = (sunk _ _ c.decreases (beneath c.binds.invariant.shorter ((c.skip_separator_after.ensures.less c.binds-test.true))) refl, tt)

pub form::receive-name-channel-requires : goal.form::receive-name-channel-requires
form::receive-name-channel-requires t c = (sunk _ _ c.decreases (beneath c.binds.invariant.shorter (under (c.skip_separator_after.ensures.less c.binds-test.true) (down c.left-found.ensures.shorter ((falls c.in-Ok-then_mark.ensures.shorter))))) refl, tt)

pub form::receive-binds-init : goal.form::receive-binds-init
form::receive-binds-init t c =
    let l = if_read (λ p. p.height ≤ c.args.free - 1) _ c.in-Ok.ensures.same c.left-pats.ensures.room in
    record { turns = first_bind _ _ _ c.arrow-kind.result (separator_of c.next_separator-separator.result) c.in-Ok.left _ (for_begun _ _ _ c.arrow-kind.result c.arrow_mark-arrow.result (Ok c.in-Ok.left) (λ out h. h) c.left-pats.ensures.reads c.arrow-kind.ensures c.arrow_mark-arrow.ensures c.in-Ok.ensures.reads) c.name.ensures.reads c.bound-first.ensures.reads c.next_separator-separator.ensures c.first_of-binds.ensures.reads; room = c.first_of-binds.ensures.room (c.args.free - 1) (c.bound-first.ensures.room (c.args.free - 1) l c.name.ensures.room); shorter = down c.left-pats.ensures.shorter (down (falls c.in-Ok.ensures.shorter) c.name.ensures.shorter) }

pub form::receive-binds-preserved : goal.form::receive-binds-preserved
form::receive-binds-preserved t c =
    let l = if_read (λ p. p.height ≤ c.args.free - 1) _ c.in-Ok-then_mark.ensures.same c.left-found.ensures.room in
    record { turns = binds_go_on c.args.free _ _ _ c.binds.binds _ c.arrow-kind.result (separator_of c.next_separator-separator.result) c.binds.more _ (c.skip_separator_after.ensures.after c.binds-test.true) (c.skip_separator_after.ensures.is c.binds-test.true) (c.skip_separator_after.ensures.takes c.binds-test.true) c.binds.invariant.turns (bind_read c.args.free _ _ _ _ _ c.arrow-kind.result c.arrow_mark-arrow.result c.in-Ok-then_mark.next_left c.arrow_mark-arrow.ensures c.left-found.ensures.reads c.in-Ok-then_mark.ensures.reads c.name-channel.ensures.reads c.bound-next.ensures.reads) c.then_one_more-binds.ensures.reads; room = c.then_one_more-binds.ensures.room (c.args.free - 1) c.binds.invariant.room (c.bound-next.ensures.room (c.args.free - 1) l c.name-channel.ensures.room); shorter = down c.binds.invariant.shorter (down c.skip_separator_after.ensures.shorter (down c.left-found.ensures.shorter (down (falls c.in-Ok-then_mark.ensures.shorter) c.name-channel.ensures.shorter))) }

pub form::receive-binds-smaller : goal.form::receive-binds-smaller
form::receive-binds-smaller t c = under (c.skip_separator_after.ensures.less c.binds-test.true) (down c.left-found.ensures.shorter (down (falls c.in-Ok-then_mark.ensures.shorter) (c.name-channel.ensures.shorter)))

pub form::receive-returns-in-Err-then_marks : goal.form::receive-returns-in-Err-then_marks
form::receive-returns-in-Err-then_marks t c = record { reads = binds_closed c.args.free _ _ _ c.arrow-kind.result (separator_of c.next_separator-separator.result) c.binds.more c.binds.binds (Err c.in-Err-then_marks.fault) (c.skip_separator_after.ensures.ends c.binds-test.false) (c.skip_separator_after.ensures.stays c.binds-test.false) c.binds.invariant.turns c.in-Err-then_marks.ensures.reads; room = tt; shorter = down c.binds.invariant.shorter (down c.skip_separator_after.ensures.shorter c.in-Err-then_marks.ensures.shorter) }

pub form::receive-returns : goal.form::receive-returns
form::receive-returns t c =
    let n : c.in-Ok-then_marks.head.height ≤ c.args.free - 1 = if_read (λ bs. bs.height ≤ c.args.free - 1) _ c.in-Ok-then_marks.ensures.same c.binds.invariant.room in
    record { reads = receive_read _ _ _ _ c.arrow-kind.result c.in-Ok-then_marks.head (binds_closed c.args.free _ _ _ c.arrow-kind.result (separator_of c.next_separator-separator.result) c.binds.more c.binds.binds (Ok c.in-Ok-then_marks.head) (c.skip_separator_after.ensures.ends c.binds-test.false) (c.skip_separator_after.ensures.stays c.binds-test.false) c.binds.invariant.turns c.in-Ok-then_marks.ensures.reads) c.par-body.ensures.reads c.close_receive.ensures.reads; room = c.close_receive.ensures.room c.args.free (omega (arith, n, c.requires)) (under_free _ c.par-body.ensures.room c.requires); shorter = down c.binds.invariant.shorter (down c.skip_separator_after.ensures.shorter (down c.in-Ok-then_marks.ensures.shorter (down c.par-body.ensures.shorter c.close_receive.ensures.shorter))) }

pub form::receive-returns-in-Err : goal.form::receive-returns-in-Err
form::receive-returns-in-Err t c =
    record { reads = for_begun _ _ _ c.arrow-kind.result c.arrow_mark-arrow.result (Err c.in-Err.fault) (λ out h. h) c.left-pats.ensures.reads c.arrow-kind.ensures c.arrow_mark-arrow.ensures c.in-Err.ensures.reads; room = tt; shorter = down c.left-pats.ensures.shorter c.in-Err.ensures.shorter }

pub form::receive-returns-in-Err-then_mark : goal.form::receive-returns-in-Err-then_mark
form::receive-returns-in-Err-then_mark t c = record { reads = gives_up of_proc _ _ c.give_up.ensures (binds_go_on c.args.free _ _ _ c.binds.binds (Err c.in-Err-then_mark.fault) c.arrow-kind.result (separator_of c.next_separator-separator.result) c.binds.more (Err c.in-Err-then_mark.fault) (c.skip_separator_after.ensures.after c.binds-test.true) (c.skip_separator_after.ensures.is c.binds-test.true) (c.skip_separator_after.ensures.takes c.binds-test.true) c.binds.invariant.turns (λ after. no_bind c.args.free _ _ _ c.arrow-kind.result c.arrow_mark-arrow.result after (Err c.in-Err-then_mark.fault) c.arrow_mark-arrow.ensures c.left-found.ensures.reads c.in-Err-then_mark.ensures.reads) (no_more _ _)); room = none_given c.args.free _ _ c.give_up.ensures; shorter = down c.binds.invariant.shorter (down c.skip_separator_after.ensures.shorter (down c.left-found.ensures.shorter c.in-Err-then_mark.ensures.shorter)) }

pub form::matching-overflow_sub-below : goal.form::matching-overflow_sub-below
form::matching-overflow_sub-below t c = c.requires

pub form::matching-level-value-requires : goal.form::matching-level-value-requires
form::matching-level-value-requires t c = (lower _ _ _ c.decreases refl, tt)

pub form::matching-pattern_one-found-requires : goal.form::matching-pattern_one-found-requires
form::matching-pattern_one-found-requires t c = (ranked _ _ c.decreases (down c.cases.invariant.shorter (c.in-Ok-refuse_minus.ensures.shorter)) refl, tt)

pub form::matching-one-requires : goal.form::matching-one-requires
form::matching-one-requires t c = (sunk _ _ c.decreases (beneath c.cases.invariant.shorter (beneath c.in-Ok-refuse_minus.ensures.shorter (beneath c.pattern_one-found.ensures.shorter (c.in-Ok-then_mark.ensures.shorter)))) refl, tt)

pub form::matching-cases-init : goal.form::matching-cases-init
form::matching-cases-init t c =
    let v = if_read (λ p. p.height ≤ c.args.free - 1) _ c.in-Ok.ensures.same c.level-value.ensures.room in
    record { turns = λ out h. (c.in-Ok.ensures.reads _ _ _ (λ v. last (Sort.Case (of_proc v) [] v.height)) (under_read _ _ _ of_proc (λ v. sign OpenBrace (last (Sort.Case v [] v.height))) _ c.level-value.ensures.reads) out (runs_last (no_cases_yet (λ cs k. rule Tutorial (Prod.case (of_proc c.in-Ok.target) cs k)) _ c.no_cases-cases.result c.no_cases-cases.ensures.tree c.no_cases-cases.ensures.height h))); room = omega (arith, c.no_cases-cases.ensures.height, v, c.requires); shorter = down c.level-value.ensures.shorter (falls c.in-Ok.ensures.shorter) }

pub form::matching-cases-preserved : goal.form::matching-cases-preserved
form::matching-cases-preserved t c =
    let k = if_read (λ p. p.height ≤ c.args.free - 1) _ c.in-Ok-then_mark.ensures.same c.pattern_one-found.ensures.room in
    let n : c.in-Ok-one_more.cases.height ≤ c.args.free - 1 = c.in-Ok-one_more.ensures.room (c.args.free - 1) (omega (arith, c.cases.invariant.room)) (c.cased-case.ensures.room (c.args.free - 1) k c.one.ensures.room) in
    record { turns = λ out h. c.cases.invariant.turns _ ((case_read _ _ _ (Ok c.in-Ok-one_more.cases) (of_proc c.in-Ok.target) c.cases.cases.value.items c.cases.cases.height c.in-Ok-then_mark.pattern (case_begun c.args.free _ _ _ (of_proc c.in-Ok.target) (map case_written c.cases.cases.value.items) c.cases.cases.height (Ok c.in-Ok-then_mark.pattern) c.in-Ok-refuse_minus.ensures.reads.0 c.in-Ok-refuse_minus.ensures.reads.1 c.pattern_one-found.ensures.reads c.in-Ok-then_mark.ensures.reads) c.one.ensures.reads c.cased-case.ensures.reads c.in-Ok-one_more.ensures.reads) _ (cases_go_on _ _ _ (sym c.skip.ensures.is ∙ c.if-skip.false) (runs_last (unmoved (c.skip.ensures.stays c.if-skip.false) h)))); room = omega (arith, n, c.requires); shorter = down c.cases.invariant.shorter (down c.in-Ok-refuse_minus.ensures.shorter (down c.pattern_one-found.ensures.shorter (down (falls c.in-Ok-then_mark.ensures.shorter) (down c.one.ensures.shorter c.skip.ensures.shorter)))) }

pub form::matching-cases-smaller : goal.form::matching-cases-smaller
form::matching-cases-smaller t c = beneath c.in-Ok-refuse_minus.ensures.shorter (beneath c.pattern_one-found.ensures.shorter (under c.in-Ok-then_mark.ensures.shorter (down c.one.ensures.shorter (c.skip.ensures.shorter))))

pub form::matching-returns-in-Err : goal.form::matching-returns-in-Err
form::matching-returns-in-Err t c =
    record { reads = c.in-Err.ensures.reads _ _ _ (λ v. last (Sort.Case (of_proc v) [] v.height)) (under_read _ _ _ of_proc (λ v. sign OpenBrace (last (Sort.Case v [] v.height))) _ c.level-value.ensures.reads); room = tt; shorter = down c.level-value.ensures.shorter c.in-Err.ensures.shorter }

pub form::matching-returns-in-Err-refuse_minus : goal.form::matching-returns-in-Err-refuse_minus
form::matching-returns-in-Err-refuse_minus t c = record { reads = c.cases.invariant.turns _ (no_next c.in-Err-refuse_minus.ensures.reads); room = tt; shorter = down c.cases.invariant.shorter c.in-Err-refuse_minus.ensures.shorter }

pub form::matching-returns-in-Err-then_mark : goal.form::matching-returns-in-Err-then_mark
form::matching-returns-in-Err-then_mark t c = record { reads = c.cases.invariant.turns _ (case_begun c.args.free _ _ _ (of_proc c.in-Ok.target) (map case_written c.cases.cases.value.items) c.cases.cases.height (Err c.in-Err-then_mark.fault) c.in-Ok-refuse_minus.ensures.reads.0 c.in-Ok-refuse_minus.ensures.reads.1 c.pattern_one-found.ensures.reads c.in-Err-then_mark.ensures.reads); room = tt; shorter = down c.cases.invariant.shorter (down c.in-Ok-refuse_minus.ensures.shorter (down c.pattern_one-found.ensures.shorter c.in-Err-then_mark.ensures.shorter)) }

pub form::matching-returns-in-Err-one_more : goal.form::matching-returns-in-Err-one_more
form::matching-returns-in-Err-one_more t c = record { reads = c.cases.invariant.turns _ (case_read _ _ _ (Err c.in-Err-one_more.fault) (of_proc c.in-Ok.target) c.cases.cases.value.items c.cases.cases.height c.in-Ok-then_mark.pattern (case_begun c.args.free _ _ _ (of_proc c.in-Ok.target) (map case_written c.cases.cases.value.items) c.cases.cases.height (Ok c.in-Ok-then_mark.pattern) c.in-Ok-refuse_minus.ensures.reads.0 c.in-Ok-refuse_minus.ensures.reads.1 c.pattern_one-found.ensures.reads c.in-Ok-then_mark.ensures.reads) c.one.ensures.reads c.cased-case.ensures.reads c.in-Err-one_more.ensures.reads); room = tt; shorter = down c.cases.invariant.shorter (down c.in-Ok-refuse_minus.ensures.shorter (down c.pattern_one-found.ensures.shorter (down (falls c.in-Ok-then_mark.ensures.shorter) c.one.ensures.shorter))) }

pub form::matching-returns-then-skip : goal.form::matching-returns-then-skip
form::matching-returns-then-skip t c =
    let k = if_read (λ p. p.height ≤ c.args.free - 1) _ c.in-Ok-then_mark.ensures.same c.pattern_one-found.ensures.room in
    let n : c.in-Ok-one_more.cases.height ≤ c.args.free - 1 = c.in-Ok-one_more.ensures.room (c.args.free - 1) (omega (arith, c.cases.invariant.room)) (c.cased-case.ensures.room (c.args.free - 1) k c.one.ensures.room) in
    record { reads = c.cases.invariant.turns _ ((case_read _ _ _ (Ok c.in-Ok-one_more.cases) (of_proc c.in-Ok.target) c.cases.cases.value.items c.cases.cases.height c.in-Ok-then_mark.pattern (case_begun c.args.free _ _ _ (of_proc c.in-Ok.target) (map case_written c.cases.cases.value.items) c.cases.cases.height (Ok c.in-Ok-then_mark.pattern) c.in-Ok-refuse_minus.ensures.reads.0 c.in-Ok-refuse_minus.ensures.reads.1 c.pattern_one-found.ensures.reads c.in-Ok-then_mark.ensures.reads) c.one.ensures.reads c.cased-case.ensures.reads c.in-Ok-one_more.ensures.reads) _ (cases_end _ _ _ (sym c.skip.ensures.is ∙ c.if-skip.true) (runs_sign (c.skip.ensures.takes c.if-skip.true) (built proc_written _ _ c.matches.ensures.tree c.matches.ensures.height)))); room = fits _ c.matches.ensures.height (omega (arith, n, c.requires)); shorter = down c.cases.invariant.shorter (down c.in-Ok-refuse_minus.ensures.shorter (down c.pattern_one-found.ensures.shorter (down (falls c.in-Ok-then_mark.ensures.shorter) (down c.one.ensures.shorter c.skip.ensures.shorter)))) }

pub left::left-close_left-requires : goal.left::left-close_left-requires
left::left-close_left-requires t c = subst (λ ts. OnOk c.each.pats (sees_member ts ≡ false)) (sym (c.skip_comma_after.ensures.stays c.each-test.false)) (c.skip_comma_after.ensures.ends c.each-test.false)

pub left::left-pattern_name-first-requires : goal.left::left-pattern_name-first-requires
left::left-pattern_name-first-requires t c = (lower _ _ _ c.decreases refl, tt)

pub left::left-pattern_name-next-requires : goal.left::left-pattern_name-next-requires
left::left-pattern_name-next-requires t c = (sunk _ _ c.decreases (beneath c.each.invariant.shorter ((c.skip_comma_after.ensures.less c.each-test.true))) refl, tt)

pub left::left-each-init : goal.left::left-each-init
left::left-each-init t c = record { turns = left_first _ _ _ (sym c.sees_name_pattern.ensures ∙ c.if-not-sees_name_pattern.false) c.pattern_name-first.ensures.reads c.first_of-pats.ensures.reads; room = c.first_of-pats.ensures.room _ c.pattern_name-first.ensures.room; shorter = c.pattern_name-first.ensures.shorter }

pub left::left-each-preserved : goal.left::left-each-preserved
left::left-each-preserved t c = record { turns = left_goes_on _ _ _ c.each.pats _ _ (c.skip_comma_after.ensures.after c.each-test.true) (c.skip_comma_after.ensures.is c.each-test.true) (c.skip_comma_after.ensures.takes c.each-test.true) c.each.invariant.turns c.pattern_name-next.ensures.reads c.then_one_more-pats.ensures.reads; room = c.then_one_more-pats.ensures.room _ c.each.invariant.room c.pattern_name-next.ensures.room; shorter = down c.each.invariant.shorter (down c.skip_comma_after.ensures.shorter c.pattern_name-next.ensures.shorter) }

pub left::left-each-smaller : goal.left::left-each-smaller
left::left-each-smaller t c = under (c.skip_comma_after.ensures.less c.each-test.true) (c.pattern_name-next.ensures.shorter)

pub left::left-returns : goal.left::left-returns
left::left-returns t c = record { reads = c.close_left.ensures.reads _ _ _ (stayed c.args.free _ _ _ c.each.pats (c.skip_comma_after.ensures.stays c.each-test.false) c.each.invariant.turns); room = c.close_left.ensures.room _ c.each.invariant.room; shorter = down c.each.invariant.shorter (down c.skip_comma_after.ensures.shorter c.close_left.ensures.shorter) }

pub left::left-returns-then-not-sees_name_pattern : goal.left::left-returns-then-not-sees_name_pattern
left::left-returns-then-not-sees_name_pattern t c = record { reads = c.left_alone.ensures.reads c.args.free; room = fits _ c.left_alone.ensures.height (omega arith); shorter = c.left_alone.ensures.shorter }

pub operation::level-overflow_sub-free : goal.operation::level-overflow_sub-free
operation::level-overflow_sub-free t c = omega (arith, c.in-GoesOn.ensures.room)

pub operation::level-operated-left-requires : goal.operation::level-operated-left-requires
operation::level-operated-left-requires t c = record { left = omega (arith, c.in-GoesOn.ensures.room, c.ranges.free); right = grows _ c.level-right.ensures.room (omega (arith, c.ranges.free)) }

pub operation::level-operators-init : goal.operation::level-operators-init
operation::level-operators-init t c = record { turns = level_begun _ _ _ _ c.inner.ensures.is c.level-left.ensures.reads; room = c.level-left.ensures.room; shorter = c.level-left.ensures.shorter }

pub operation::level-operators-preserved : goal.operation::level-operators-preserved
operation::level-operators-preserved t c = record { turns = level_gone_on _ _ _ c.in-GoesOn.first c.in-GoesOn.op _ _ c.right.ensures (c.in-GoesOn.ensures.reads _ _ c.operators.invariant.turns) c.level-right.ensures.reads c.operated-left.ensures.reads; room = c.operated-left.ensures.room c.args.free c.in-GoesOn.ensures.room (under_free _ c.level-right.ensures.room (omega (arith, c.in-GoesOn.ensures.room))); shorter = down c.operators.invariant.shorter (down (falls c.in-GoesOn.ensures.shorter) c.level-right.ensures.shorter) }

pub operation::level-operators-smaller : goal.operation::level-operators-smaller
operation::level-operators-smaller t c = under c.in-GoesOn.ensures.shorter (c.level-right.ensures.shorter)

pub operation::level-returns-in-Ends : goal.operation::level-returns-in-Ends
operation::level-returns-in-Ends t c = record { reads = level_as _ _ c.in-Some.is (c.in-Ends.ensures.reads _ _ c.operators.invariant.turns); room = c.in-Ends.ensures.within c.args.free c.operators.invariant.room; shorter = down c.operators.invariant.shorter c.in-Ends.ensures.shorter }

pub operation::level-returns-in-None : goal.operation::level-returns-in-None
operation::level-returns-in-None t c = record { reads = prefix_as c.args.within c.in-None.is c.pre.ensures.reads; room = c.pre.ensures.room; shorter = c.pre.ensures.shorter }

pub operation::pre-overflow_sub-free : goal.operation::pre-overflow_sub-free
operation::pre-overflow_sub-free t c = subst (HasRoomAfter c.args.free) c.in-Ok-Some.field-0-is c.in-Ok-Some.ensures.room

pub operation::pre-overflow_sub-free-in-GoesOn : goal.operation::pre-overflow_sub-free-in-GoesOn
operation::pre-overflow_sub-free-in-GoesOn t c = omega (arith, c.in-GoesOn.ensures.room)

pub operation::pre-unary_with_operand-requires : goal.operation::pre-unary_with_operand-requires
operation::pre-unary_with_operand-requires t c = grows _ c.pre-operand.ensures.room (omega (arith, c.ranges.free))

pub operation::pre-called-target-requires : goal.operation::pre-called-target-requires
operation::pre-called-target-requires t c = record { target = omega (arith, c.in-GoesOn.ensures.room, c.ranges.free); args = grows _ c.row-args.ensures.room (omega (arith, c.ranges.free)) }

pub operation::pre-drop_form-target-requires : goal.operation::pre-drop_form-target-requires
operation::pre-drop_form-target-requires t c =
    let s = subst (PassesOperator _ _) c.in-Ok-None.field-0-is c.in-Ok-None.ensures.shorter in
    (ranked _ _ c.decreases s refl, tt)

pub operation::pre-pre-operand-requires : goal.operation::pre-pre-operand-requires
operation::pre-pre-operand-requires t c =
    let s = subst (PassesOperator _ _) c.in-Ok-Some.field-0-is c.in-Ok-Some.ensures.shorter in
    (sunk _ _ c.decreases s refl, tt)

pub operation::pre-row-args-requires : goal.operation::pre-row-args-requires
operation::pre-row-args-requires t c = (sunk _ _ c.decreases (beneath c.calls.invariant.shorter (c.in-GoesOn.ensures.shorter)) refl, tt)

pub operation::pre-calls-preserved : goal.operation::pre-calls-preserved
operation::pre-calls-preserved t c = record { turns = call_gone_on _ c.in-GoesOn.first c.in-GoesOn.name _ _ (c.in-GoesOn.ensures.reads _ _ c.calls.invariant.turns) c.row-args.ensures.reads c.called-target.ensures.reads; room = c.called-target.ensures.room c.args.free c.in-GoesOn.ensures.room (under_free _ c.row-args.ensures.room (omega (arith, c.in-GoesOn.ensures.room))); shorter = down c.calls.invariant.shorter (down (falls c.in-GoesOn.ensures.shorter) c.row-args.ensures.shorter) }

pub operation::pre-calls-init : goal.operation::pre-calls-init
operation::pre-calls-init t c =
    let r = at_step after_operator _ _ c.in-Ok-None.field-0-is c.in-Ok-None.ensures.reads in
    let s = subst (PassesOperator _ _) c.in-Ok-None.field-0-is c.in-Ok-None.ensures.shorter in
    record { turns = target_read _ _ r c.drop_form-target.ensures.reads; room = c.drop_form-target.ensures.room; shorter = down s c.drop_form-target.ensures.shorter }

pub operation::pre-calls-smaller : goal.operation::pre-calls-smaller
operation::pre-calls-smaller t c = under c.in-GoesOn.ensures.shorter (c.row-args.ensures.shorter)

pub operation::pre-returns-in-Err : goal.operation::pre-returns-in-Err
operation::pre-returns-in-Err t c = record { reads = c.in-Err.ensures.reads; room = tt; shorter = c.in-Err.ensures.shorter }

pub operation::pre-returns-in-Ok-Some : goal.operation::pre-returns-in-Ok-Some
operation::pre-returns-in-Ok-Some t c =
    let r = at_step after_operator _ _ c.in-Ok-Some.field-0-is c.in-Ok-Some.ensures.reads in
    let m = subst (HasRoomAfter c.args.free) c.in-Ok-Some.field-0-is c.in-Ok-Some.ensures.room in
    let s = subst (PassesOperator _ _) c.in-Ok-Some.field-0-is c.in-Ok-Some.ensures.shorter in
    record { reads = r _ (c.unary_with_operand.ensures.reads _ _ _ _ (under_read _ _ _ of_proc (λ a. done (opened (unary_of c.in-Ok-Some.op a.tree) a.height)) _ c.pre-operand.ensures.reads)); room = c.unary_with_operand.ensures.room c.args.free (under_free _ c.pre-operand.ensures.room m); shorter = down (falls s) c.pre-operand.ensures.shorter }

pub operation::pre-returns-in-Ends : goal.operation::pre-returns-in-Ends
operation::pre-returns-in-Ends t c = record { reads = c.in-Ends.ensures.reads _ _ c.calls.invariant.turns; room = c.in-Ends.ensures.within c.args.free c.calls.invariant.room; shorter = down c.calls.invariant.shorter c.in-Ends.ensures.shorter }

pub atom::drop_form-overflow_sub-free : goal.atom::drop_form-overflow_sub-free
atom::drop_form-overflow_sub-free t c = subst (HasRoomFor c.args.free) c.in-Ok-Dropped.field-0-is c.in-Ok-Dropped.ensures.room

pub atom::drop_form-overflow_sub-below : goal.atom::drop_form-overflow_sub-below
atom::drop_form-overflow_sub-below t c = subst (HasRoomFor c.args.free) c.in-Ok-Group.field-0-is c.in-Ok-Group.ensures.room

pub atom::drop_form-overflow_sub-free-in-Ok-Members : goal.atom::drop_form-overflow_sub-free-in-Ok-Members
atom::drop_form-overflow_sub-free-in-Ok-Members t c = subst (HasRoomFor c.args.free) c.in-Ok-Members.field-0-is c.in-Ok-Members.ensures.room

pub atom::drop_form-dropped_quote-requires : goal.atom::drop_form-dropped_quote-requires
atom::drop_form-dropped_quote-requires t c = grows _ c.drop_form-quoted.ensures.room (omega (arith, c.ranges.free))

pub atom::drop_form-members-requires : goal.atom::drop_form-members-requires
atom::drop_form-members-requires t c = grows _ c.row-row-in-Ok-Members.ensures.room (omega (arith, c.ranges.free))

pub atom::drop_form-close-requires : goal.atom::drop_form-close-requires
atom::drop_form-close-requires t c = grows _ c.par-inner.ensures.room (omega (arith, c.ranges.free))

pub atom::drop_form-tuple-requires : goal.atom::drop_form-tuple-requires
atom::drop_form-tuple-requires t c = record { first = grows _ c.par-inner.ensures.room (omega (arith, c.ranges.free)); row = grows _ c.row-row.ensures.room (omega (arith, c.ranges.free)) }

pub atom::drop_form-drop_form-quoted-requires : goal.atom::drop_form-drop_form-quoted-requires
atom::drop_form-drop_form-quoted-requires t c =
    let s = subst (Passes _ _) c.in-Ok-Dropped.field-0-is c.in-Ok-Dropped.ensures.shorter in
    (sunk _ _ c.decreases s refl, tt)

pub atom::drop_form-par-inner-requires : goal.atom::drop_form-par-inner-requires
atom::drop_form-par-inner-requires t c =
    let s = subst (Passes _ _) c.in-Ok-Group.field-0-is c.in-Ok-Group.ensures.shorter in
    (sunk _ _ c.decreases s refl, tt)

pub atom::drop_form-row-row-requires : goal.atom::drop_form-row-row-requires
atom::drop_form-row-row-requires t c =
    let s = subst (Passes _ _) c.in-Ok-Group.field-0-is c.in-Ok-Group.ensures.shorter in
    (sunk _ _ c.decreases (under s (down c.par-inner.ensures.shorter (c.skip_after.ensures.shorter))) refl, tt)

pub atom::drop_form-row-row-requires-in-Ok-Members : goal.atom::drop_form-row-row-requires-in-Ok-Members
atom::drop_form-row-row-requires-in-Ok-Members t c =
    let s = subst (Passes _ _) c.in-Ok-Members.field-0-is c.in-Ok-Members.ensures.shorter in
    (sunk _ _ c.decreases s refl, tt)

pub atom::drop_form-block-requires : goal.atom::drop_form-block-requires
atom::drop_form-block-requires t c =
    let s = subst (Passes _ _) c.in-Ok-Block.field-0-is c.in-Ok-Block.ensures.shorter in
    let m = subst (HasRoomFor c.args.free) c.in-Ok-Block.field-0-is c.in-Ok-Block.ensures.room in
    (sunk _ _ c.decreases s refl, m)

pub atom::drop_form-returns-else-not-skip_after : goal.atom::drop_form-returns-else-not-skip_after
atom::drop_form-returns-else-not-skip_after t c =
    let r = at_step after_process_step _ _ c.in-Ok-Group.field-0-is c.in-Ok-Group.ensures.reads in
    let m = subst (HasRoomFor c.args.free) c.in-Ok-Group.field-0-is c.in-Ok-Group.ensures.room in
    let s = subst (Passes _ _) c.in-Ok-Group.field-0-is c.in-Ok-Group.ensures.shorter in
    record { reads = r _ (group_tupled _ processes of_proc c.par-inner.result (c.skip_after.ensures.after c.if-not-skip_after.false) (c.skip_after.ensures.is c.if-not-skip_after.false) (c.skip_after.ensures.takes c.if-not-skip_after.false) (under_read _ _ _ of_proc (λ a. last (Sort.Group processes a)) _ c.par-inner.ensures.reads) (λ a e. c.tuple.ensures.reads a e _ _ _ c.row-row.ensures.reads)); room = c.tuple.ensures.room c.args.free (under_free _ c.par-inner.ensures.room m) (under_free _ c.row-row.ensures.room m); shorter = down (falls s) (down c.par-inner.ensures.shorter (down c.skip_after.ensures.shorter c.row-row.ensures.shorter)) }

pub atom::drop_form-returns-then-not-skip_after : goal.atom::drop_form-returns-then-not-skip_after
atom::drop_form-returns-then-not-skip_after t c =
    let r = at_step after_process_step _ _ c.in-Ok-Group.field-0-is c.in-Ok-Group.ensures.reads in
    let m = subst (HasRoomFor c.args.free) c.in-Ok-Group.field-0-is c.in-Ok-Group.ensures.room in
    let s = subst (Passes _ _) c.in-Ok-Group.field-0-is c.in-Ok-Group.ensures.shorter in
    record { reads = r _ (c.close.ensures.reads proc_written _ _ _ (group_ended c.args.free _ _ processes of_proc c.par-inner.result (c.skip_after.ensures.stays c.if-not-skip_after.true) (c.skip_after.ensures.ends c.if-not-skip_after.true) (under_read _ _ _ of_proc (λ a. last (Sort.Group processes a)) _ c.par-inner.ensures.reads))); room = c.close.ensures.room c.args.free (under_free _ c.par-inner.ensures.room m); shorter = down (falls s) (down c.par-inner.ensures.shorter (down c.skip_after.ensures.shorter c.close.ensures.shorter)) }

pub atom::drop_form-returns-in-Err : goal.atom::drop_form-returns-in-Err
atom::drop_form-returns-in-Err t c = record { reads = c.in-Err.ensures.reads; room = tt; shorter = c.in-Err.ensures.shorter }

pub atom::drop_form-returns-in-Ok-Dropped : goal.atom::drop_form-returns-in-Ok-Dropped
atom::drop_form-returns-in-Ok-Dropped t c =
    let r = at_step after_process_step _ _ c.in-Ok-Dropped.field-0-is c.in-Ok-Dropped.ensures.reads in
    let m = subst (HasRoomFor c.args.free) c.in-Ok-Dropped.field-0-is c.in-Ok-Dropped.ensures.room in
    let s = subst (Passes _ _) c.in-Ok-Dropped.field-0-is c.in-Ok-Dropped.ensures.shorter in
    record { reads = r _ (c.dropped_quote.ensures.reads _ _ _ _ (under_read _ _ _ of_proc (λ a. done (opened (drop_of (quote_of a.tree)) a.height)) _ c.drop_form-quoted.ensures.reads)); room = c.dropped_quote.ensures.room c.args.free (under_free _ c.drop_form-quoted.ensures.room m); shorter = down (falls s) c.drop_form-quoted.ensures.shorter }

pub atom::drop_form-returns-in-Ok-Members : goal.atom::drop_form-returns-in-Ok-Members
atom::drop_form-returns-in-Ok-Members t c =
    let r = at_step after_process_step _ _ c.in-Ok-Members.field-0-is c.in-Ok-Members.ensures.reads in
    let m = subst (HasRoomFor c.args.free) c.in-Ok-Members.field-0-is c.in-Ok-Members.ensures.room in
    let s = subst (Passes _ _) c.in-Ok-Members.field-0-is c.in-Ok-Members.ensures.shorter in
    record { reads = r _ (c.members.ensures.reads _ _ _ _ (under_read _ _ _ of_row (λ a. done (opened (members_of c.in-Ok-Members.bracket a.tree) a.height)) _ c.row-row-in-Ok-Members.ensures.reads)); room = c.members.ensures.room c.args.free (under_free _ c.row-row-in-Ok-Members.ensures.room m); shorter = down (falls s) c.row-row-in-Ok-Members.ensures.shorter }

pub atom::drop_form-returns-in-Ok-Plain : goal.atom::drop_form-returns-in-Ok-Plain
atom::drop_form-returns-in-Ok-Plain t c =
    let r = at_step after_process_step _ _ c.in-Ok-Plain.field-0-is c.in-Ok-Plain.ensures.reads in
    let m = subst (HasRoomFor c.args.free) c.in-Ok-Plain.field-0-is c.in-Ok-Plain.ensures.room in
    let s = subst (Passes _ _) c.in-Ok-Plain.field-0-is c.in-Ok-Plain.ensures.shorter in
    record { reads = r _ (c.plain_process.ensures.reads _); room = fits _ c.plain_process.ensures.height m; shorter = down s c.plain_process.ensures.shorter }

pub atom::drop_form-returns-in-Ok-Block : goal.atom::drop_form-returns-in-Ok-Block
atom::drop_form-returns-in-Ok-Block t c =
    let r = at_step after_process_step _ _ c.in-Ok-Block.field-0-is c.in-Ok-Block.ensures.reads in
    let s = subst (Passes _ _) c.in-Ok-Block.field-0-is c.in-Ok-Block.ensures.shorter in
    record { reads = r _ c.block.ensures.reads; room = c.block.ensures.room; shorter = down (falls s) c.block.ensures.shorter }

pub atom::name-drop_form-quoted-requires : goal.atom::name-drop_form-quoted-requires
atom::name-drop_form-quoted-requires t c = (sunk _ _ c.decreases ((c.skip.ensures.less c.if-not-skip.false)) refl, tt)

pub atom::name-returns : goal.atom::name-returns
atom::name-returns t c = record { reads = name_at (sym c.skip.ensures.is ∙ c.if-not-skip.false) (runs_sign (c.skip.ensures.takes c.if-not-skip.false) (c.quoted_name.ensures.reads _ _ _ _ (at_read _ _ of_proc (λ a. done (spelt (quote_of a.tree) a.height)) _ c.drop_form-quoted.ensures.reads))); room = c.quoted_name.ensures.room _ c.drop_form-quoted.ensures.room; shorter = down c.skip.ensures.shorter c.drop_form-quoted.ensures.shorter }

pub atom::name-returns-then-not-skip : goal.atom::name-returns-then-not-skip
atom::name-returns-then-not-skip t c = record { reads = name_plain c.args.cursor.now.rest.now (sym c.skip.ensures.is ∙ c.if-not-skip.true) (unmoved (c.skip.ensures.stays c.if-not-skip.true) (c.name_word.ensures.reads _)); room = fits _ c.name_word.ensures.height (omega arith); shorter = down c.skip.ensures.shorter c.name_word.ensures.shorter }

pub atom::block-overflow_sub-below : goal.atom::block-overflow_sub-below
atom::block-overflow_sub-below t c = c.requires

pub atom::block-close_map-requires : goal.atom::block-close_map-requires
atom::block-close_map-requires t c = grows _ c.each.invariant.room (omega (arith, c.ranges.free))

pub atom::block-close-requires : goal.atom::block-close-requires
atom::block-close-requires t c = grows _ c.par-first.ensures.room (omega (arith, c.ranges.free))

pub atom::block-par-first-requires : goal.atom::block-par-first-requires
atom::block-par-first-requires t c = (lower _ _ _ c.decreases refl, tt)

pub atom::block-par-value-requires : goal.atom::block-par-value-requires
atom::block-par-value-requires t c = (sunk _ _ c.decreases (beneath c.par-first.ensures.shorter ((c.skip_after.ensures.less c.if-not-skip_after.false))) refl, tt)

pub atom::block-par-found-requires : goal.atom::block-par-found-requires
atom::block-par-found-requires t c = (sunk _ _ c.decreases (beneath (falls c.each.invariant.shorter) ((c.skip_after-in-each.ensures.less c.each-test.true))) refl, tt)

pub atom::block-par-requires : goal.atom::block-par-requires
atom::block-par-requires t c = (sunk _ _ c.decreases (beneath (falls c.each.invariant.shorter) (under (c.skip_after-in-each.ensures.less c.each-test.true) (down c.par-found.ensures.shorter ((falls c.in-Ok.ensures.shorter))))) refl, tt)

pub atom::block-each-init : goal.atom::block-each-init
atom::block-each-init t c = record { turns = block_first c.args.free _ _ _ c.par-first.result _ _ (c.skip_after.ensures.after c.if-not-skip_after.false) (c.skip_after.ensures.is c.if-not-skip_after.false) (c.skip_after.ensures.takes c.if-not-skip_after.false) (under_read _ _ _ of_proc (λ a. last (Sort.BraceTail a)) _ c.par-first.ensures.reads) c.par-value.ensures.reads c.first_pair-pairs.ensures.reads; room = c.first_pair-pairs.ensures.room (c.args.free - 1) c.par-first.ensures.room c.par-value.ensures.room; shorter = omega (arith, c.par-first.ensures.shorter, c.skip_after.ensures.less c.if-not-skip_after.false, c.par-value.ensures.shorter) }

pub atom::block-each-preserved : goal.atom::block-each-preserved
atom::block-each-preserved t c =
    let k = if_read (λ p. p.height ≤ c.args.free - 1) _ c.in-Ok.ensures.same c.par-found.ensures.room in
    record { turns = block_goes_on c.args.free _ _ _ c.each.pairs _ _ (c.skip_after-in-each.ensures.after c.each-test.true) (c.skip_after-in-each.ensures.is c.each-test.true) (c.skip_after-in-each.ensures.takes c.each-test.true) c.each.invariant.turns (pair_read c.args.free _ _ _ _ _ processes proc_written c.in-Ok.key c.par-found.ensures.reads c.in-Ok.ensures.reads c.par.ensures.reads c.paired-next.ensures.reads) c.then_one_more-pairs.ensures.reads; room = c.then_one_more-pairs.ensures.room (c.args.free - 1) c.each.invariant.room (c.paired-next.ensures.room (c.args.free - 1) k c.par.ensures.room); shorter = omega (arith, c.each.invariant.shorter, c.skip_after-in-each.ensures.shorter, c.par-found.ensures.shorter, c.in-Ok.ensures.shorter, c.par.ensures.shorter) }

pub atom::block-each-smaller : goal.atom::block-each-smaller
atom::block-each-smaller t c = under (c.skip_after-in-each.ensures.less c.each-test.true) (down c.par-found.ensures.shorter (down (falls c.in-Ok.ensures.shorter) (c.par.ensures.shorter)))

pub atom::block-returns : goal.atom::block-returns
atom::block-returns t c = record { reads = c.close_map.ensures.reads _ _ _ (stayed c.args.free _ _ _ c.each.pairs (c.skip_after-in-each.ensures.stays c.each-test.false) (block_ended c.args.free _ _ _ c.each.pairs (c.skip_after-in-each.ensures.ends c.each-test.false) c.each.invariant.turns)); room = c.close_map.ensures.room c.args.free (under_free _ c.each.invariant.room (omega (arith, c.requires))); shorter = down (falls c.each.invariant.shorter) (down c.skip_after-in-each.ensures.shorter c.close_map.ensures.shorter) }

pub atom::block-returns-then-not-skip_after : goal.atom::block-returns-then-not-skip_after
atom::block-returns-then-not-skip_after t c = record { reads = c.close.ensures.reads proc_written _ _ _ (block_closed c.args.free _ _ c.par-first.result (c.skip_after.ensures.stays c.if-not-skip_after.true) (c.skip_after.ensures.ends c.if-not-skip_after.true) (under_read _ _ _ of_proc (λ a. last (Sort.BraceTail a)) _ c.par-first.ensures.reads)); room = c.close.ensures.room c.args.free (under_free _ c.par-first.ensures.room c.requires); shorter = down c.par-first.ensures.shorter (down c.skip_after.ensures.shorter c.close.ensures.shorter) }

pub atom::block-returns-in-Err : goal.atom::block-returns-in-Err
atom::block-returns-in-Err t c = record { reads = gives_up of_proc _ _ c.give_up.ensures (block_goes_on c.args.free _ _ _ c.each.pairs (Err c.in-Err.fault) (Err c.in-Err.fault) (c.skip_after-in-each.ensures.after c.each-test.true) (c.skip_after-in-each.ensures.is c.each-test.true) (c.skip_after-in-each.ensures.takes c.each-test.true) c.each.invariant.turns (λ after. no_pair _ _ processes proc_written after c.in-Err.fault c.par-found.ensures.reads c.in-Err.ensures.reads) (no_more _ _)); room = none_given c.args.free _ _ c.give_up.ensures; shorter = down (falls c.each.invariant.shorter) (down c.skip_after-in-each.ensures.shorter (down c.par-found.ensures.shorter c.in-Err.ensures.shorter)) }

pub atom::row-par-first-requires : goal.atom::row-par-first-requires
atom::row-par-first-requires t c = (lower _ _ _ c.decreases refl, tt)

pub atom::row-par-next-requires : goal.atom::row-par-next-requires
atom::row-par-next-requires t c = (sunk _ _ c.decreases (beneath c.each.invariant.shorter ((c.skip_after.ensures.less c.each-test.true))) refl, tt)

pub atom::row-each-init : goal.atom::row-each-init
atom::row-each-init t c = record { turns = row_first _ _ processes (bracket_of c.args.bracket) proc_written _ (sym c.sees_closing.ensures ∙ c.if-sees_closing.false) c.par-first.ensures.reads c.first_of-members.ensures.reads; room = c.first_of-members.ensures.room _ c.par-first.ensures.room; shorter = c.par-first.ensures.shorter }

pub atom::row-each-preserved : goal.atom::row-each-preserved
atom::row-each-preserved t c = record { turns = row_goes_on _ _ _ c.each.members _ _ processes (bracket_of c.args.bracket) proc_written (c.skip_after.ensures.after c.each-test.true) (c.skip_after.ensures.is c.each-test.true) (c.skip_after.ensures.takes c.each-test.true) c.each.invariant.turns c.par-next.ensures.reads c.then_one_more-members.ensures.reads; room = c.then_one_more-members.ensures.room _ c.each.invariant.room c.par-next.ensures.room; shorter = down c.each.invariant.shorter (down c.skip_after.ensures.shorter c.par-next.ensures.shorter) }

pub atom::row-each-smaller : goal.atom::row-each-smaller
atom::row-each-smaller t c = under (c.skip_after.ensures.less c.each-test.true) (c.par-next.ensures.shorter)

pub atom::row-returns : goal.atom::row-returns
atom::row-returns t c = record { reads = row_ended _ _ c.each.members _ processes (bracket_of c.args.bracket) proc_written c.closing_mark.result c.closing_mark.ensures (subst (λ ts. OnOk c.each.members (sees Comma ts ≡ false)) (sym (c.skip_after.ensures.stays c.each-test.false)) (c.skip_after.ensures.ends c.each-test.false)) (stayed c.args.free _ _ _ c.each.members (c.skip_after.ensures.stays c.each-test.false) c.each.invariant.turns) c.then_mark.ensures.reads; room = if_same c.args.free c.each.members _ c.then_mark.ensures.same c.each.invariant.room; shorter = down c.each.invariant.shorter (down c.skip_after.ensures.shorter (no_longer _ c.then_mark.ensures.shorter)) }

pub atom::row-returns-then-sees_closing : goal.atom::row-returns-then-sees_closing
atom::row-returns-then-sees_closing t c = record { reads = row_empty _ _ (sym c.sees_closing.ensures ∙ c.if-sees_closing.true) (c.row_none.ensures.reads _); room = fits _ c.row_none.ensures.height (omega arith); shorter = c.row_none.ensures.shorter }

pub pattern::pattern_par-pattern_one-first-requires : goal.pattern::pattern_par-pattern_one-first-requires
pattern::pattern_par-pattern_one-first-requires t c = (lower _ _ _ c.decreases refl, tt)

pub pattern::pattern_par-pattern_one-next-requires : goal.pattern::pattern_par-pattern_one-next-requires
pattern::pattern_par-pattern_one-next-requires t c = (sunk _ _ c.decreases (beneath c.each.invariant.shorter ((c.skip_after.ensures.less c.each-test.true))) refl, tt)

pub pattern::pattern_par-each-init : goal.pattern::pattern_par-each-init
pattern::pattern_par-each-init t c = record { turns = par_first _ _ patterns pat_written _ c.pattern_one-first.ensures.reads c.first_of-parts.ensures.reads; room = c.first_of-parts.ensures.room _ c.pattern_one-first.ensures.room; shorter = c.pattern_one-first.ensures.shorter }

pub pattern::pattern_par-each-preserved : goal.pattern::pattern_par-each-preserved
pattern::pattern_par-each-preserved t c = record { turns = par_goes_on _ _ _ c.each.parts _ _ patterns pat_written (c.skip_after.ensures.after c.each-test.true) (c.skip_after.ensures.is c.each-test.true) (c.skip_after.ensures.takes c.each-test.true) c.each.invariant.turns c.pattern_one-next.ensures.reads c.then_one_more-parts.ensures.reads; room = c.then_one_more-parts.ensures.room _ c.each.invariant.room c.pattern_one-next.ensures.room; shorter = down c.each.invariant.shorter (down c.skip_after.ensures.shorter c.pattern_one-next.ensures.shorter) }

pub pattern::pattern_par-each-smaller : goal.pattern::pattern_par-each-smaller
pattern::pattern_par-each-smaller t c = under (c.skip_after.ensures.less c.each-test.true) (c.pattern_one-next.ensures.shorter)

pub pattern::pattern_par-returns : goal.pattern::pattern_par-returns
pattern::pattern_par-returns t c = record { reads = c.composed_pattern.ensures.reads _ _ _ _ (stayed c.args.free _ _ _ c.each.parts (c.skip_after.ensures.stays c.each-test.false) (par_ended c.args.free _ _ _ c.each.parts patterns pat_written (c.skip_after.ensures.ends c.each-test.false) c.each.invariant.turns)); room = c.composed_pattern.ensures.room _ c.each.invariant.room; shorter = down c.each.invariant.shorter c.skip_after.ensures.shorter }

pub pattern::pattern_one-overflow_sub-free : goal.pattern::pattern_one-overflow_sub-free
pattern::pattern_one-overflow_sub-free t c = subst (HasRoomForPart c.args.free) c.in-Ok-Bundle.field-0-is c.in-Ok-Bundle.ensures.room

pub pattern::pattern_one-overflow_sub-below : goal.pattern::pattern_one-overflow_sub-below
pattern::pattern_one-overflow_sub-below t c = subst (HasRoomForPart c.args.free) c.in-Ok-Quoted.field-0-is c.in-Ok-Quoted.ensures.room

pub pattern::pattern_one-overflow_sub-free-in-Ok-Send : goal.pattern::pattern_one-overflow_sub-free-in-Ok-Send
pattern::pattern_one-overflow_sub-free-in-Ok-Send t c =
    let m = subst (HasRoomForPart c.args.free) c.in-Ok-Send.field-0-is c.in-Ok-Send.ensures.room in
    omega (arith, m)

pub pattern::pattern_one-close_bundle_pattern-requires : goal.pattern::pattern_one-close_bundle_pattern-requires
pattern::pattern_one-close_bundle_pattern-requires t c = grows _ c.pattern_par-body.ensures.room (omega (arith, c.ranges.free))

pub pattern::pattern_one-sent_pattern-requires : goal.pattern::pattern_one-sent_pattern-requires
pattern::pattern_one-sent_pattern-requires t c =
    let m = subst (HasRoomForPart c.args.free) c.in-Ok-Quoted.field-0-is c.in-Ok-Quoted.ensures.room in
    let h = c.in-Ok.ensures.room c.args.free (under_free _ c.pattern_joined-quoted.ensures.room m) in
    record { channel = omega (arith, h, c.ranges.free); args = grows _ c.pattern_row-args.ensures.room (omega (arith, c.ranges.free)) }

pub pattern::pattern_one-form-requires : goal.pattern::pattern_one-form-requires
pattern::pattern_one-form-requires t c =
    let s = subst (PassesPart _ _) c.in-Ok-Form.field-0-is c.in-Ok-Form.ensures.shorter in
    (ranked _ _ c.decreases s refl, tt)

pub pattern::pattern_one-pattern_par-body-requires : goal.pattern::pattern_one-pattern_par-body-requires
pattern::pattern_one-pattern_par-body-requires t c =
    let s = subst (PassesPart _ _) c.in-Ok-Bundle.field-0-is c.in-Ok-Bundle.ensures.shorter in
    (sunk _ _ c.decreases s refl, tt)

pub pattern::pattern_one-pattern_joined-quoted-requires : goal.pattern::pattern_one-pattern_joined-quoted-requires
pattern::pattern_one-pattern_joined-quoted-requires t c =
    let s = subst (PassesPart _ _) c.in-Ok-Quoted.field-0-is c.in-Ok-Quoted.ensures.shorter in
    (sunk _ _ c.decreases s refl, tt)

pub pattern::pattern_one-pattern_row-args-requires : goal.pattern::pattern_one-pattern_row-args-requires
pattern::pattern_one-pattern_row-args-requires t c =
    let s = subst (PassesPart _ _) c.in-Ok-Quoted.field-0-is c.in-Ok-Quoted.ensures.shorter in
    (sunk _ _ c.decreases (under s (down c.pattern_joined-quoted.ensures.shorter (c.in-Ok.ensures.shorter))) refl, tt)

pub pattern::pattern_one-pattern_row-args-requires-in-Ok-Send : goal.pattern::pattern_one-pattern_row-args-requires-in-Ok-Send
pattern::pattern_one-pattern_row-args-requires-in-Ok-Send t c =
    let s = subst (PassesPart _ _) c.in-Ok-Send.field-0-is c.in-Ok-Send.ensures.shorter in
    (sunk _ _ c.decreases s refl, tt)

pub pattern::pattern_one-pattern_joined-requires : goal.pattern::pattern_one-pattern_joined-requires
pattern::pattern_one-pattern_joined-requires t c =
    let s = subst (PassesPart _ _) c.in-Ok-Alternative.field-0-is c.in-Ok-Alternative.ensures.shorter in
    (ranked _ _ c.decreases s refl, tt)

pub pattern::pattern_one-sent_pattern-requires-in-Ok-Send : goal.pattern::pattern_one-sent_pattern-requires-in-Ok-Send
pattern::pattern_one-sent_pattern-requires-in-Ok-Send t c =
    let m = subst (HasRoomForPart c.args.free) c.in-Ok-Send.field-0-is c.in-Ok-Send.ensures.room in
    record { channel = omega (arith, m, c.ranges.free); args = grows _ c.pattern_row-args-in-Ok-Send.ensures.room (omega (arith, c.ranges.free)) }

pub pattern::pattern_one-returns-in-Err : goal.pattern::pattern_one-returns-in-Err
pattern::pattern_one-returns-in-Err t c = record { reads = c.in-Err.ensures.reads; room = tt; shorter = c.in-Err.ensures.shorter }

pub pattern::pattern_one-returns-in-Ok-Alternative : goal.pattern::pattern_one-returns-in-Ok-Alternative
pattern::pattern_one-returns-in-Ok-Alternative t c =
    let r = at_step after_part_step _ _ c.in-Ok-Alternative.field-0-is c.in-Ok-Alternative.ensures.reads in
    let s = subst (PassesPart _ _) c.in-Ok-Alternative.field-0-is c.in-Ok-Alternative.ensures.shorter in
    record { reads = r _ (runs_last c.pattern_joined.ensures.reads); room = c.pattern_joined.ensures.room; shorter = down s c.pattern_joined.ensures.shorter }

pub pattern::pattern_one-returns-in-Ok-Bundle : goal.pattern::pattern_one-returns-in-Ok-Bundle
pattern::pattern_one-returns-in-Ok-Bundle t c =
    let r = at_step after_part_step _ _ c.in-Ok-Bundle.field-0-is c.in-Ok-Bundle.ensures.reads in
    let m = subst (HasRoomForPart c.args.free) c.in-Ok-Bundle.field-0-is c.in-Ok-Bundle.ensures.room in
    let s = subst (PassesPart _ _) c.in-Ok-Bundle.field-0-is c.in-Ok-Bundle.ensures.shorter in
    record { reads = r _ (c.close_bundle_pattern.ensures.reads _ _ _ (under_read _ _ _ of_pat (λ a. sign CloseBrace (done (opened (bundle_of patterns c.in-Ok-Bundle.rights a.tree) a.height))) _ c.pattern_par-body.ensures.reads)); room = c.close_bundle_pattern.ensures.room c.args.free (under_free _ c.pattern_par-body.ensures.room m); shorter = down (falls s) (down c.pattern_par-body.ensures.shorter c.close_bundle_pattern.ensures.shorter) }

pub pattern::pattern_one-returns-in-Err-quoted_send_pattern : goal.pattern::pattern_one-returns-in-Err-quoted_send_pattern
pattern::pattern_one-returns-in-Err-quoted_send_pattern t c =
    let r = at_step after_part_step _ _ c.in-Ok-Quoted.field-0-is c.in-Ok-Quoted.ensures.reads in
    let m = subst (HasRoomForPart c.args.free) c.in-Ok-Quoted.field-0-is c.in-Ok-Quoted.ensures.room in
    let s = subst (PassesPart _ _) c.in-Ok-Quoted.field-0-is c.in-Ok-Quoted.ensures.shorter in
    record { reads = r _ (c.in-Err-quoted_send_pattern.ensures.reads _ _ _ (under_read _ _ _ of_pat (λ a. last (Sort.SentTail patterns (spelt (quoted_of a.tree) a.height))) _ c.pattern_joined-quoted.ensures.reads)); room = tt; shorter = down (falls s) (down c.pattern_joined-quoted.ensures.shorter c.in-Err-quoted_send_pattern.ensures.shorter) }

pub pattern::pattern_one-returns-in-Ok : goal.pattern::pattern_one-returns-in-Ok
pattern::pattern_one-returns-in-Ok t c =
    let r = at_step after_part_step _ _ c.in-Ok-Quoted.field-0-is c.in-Ok-Quoted.ensures.reads in
    let m = subst (HasRoomForPart c.args.free) c.in-Ok-Quoted.field-0-is c.in-Ok-Quoted.ensures.room in
    let s = subst (PassesPart _ _) c.in-Ok-Quoted.field-0-is c.in-Ok-Quoted.ensures.shorter in
    let h = c.in-Ok.ensures.room c.args.free (under_free _ c.pattern_joined-quoted.ensures.room m) in
    record { reads = r _ (c.in-Ok.ensures.reads _ _ _ (under_read _ _ _ of_pat (λ a. last (Sort.SentTail patterns (spelt (quoted_of a.tree) a.height))) _ c.pattern_joined-quoted.ensures.reads) _ (c.sent_pattern.ensures.reads _ _ _ c.pattern_row-args.ensures.reads)); room = c.sent_pattern.ensures.room c.args.free h (under_free _ c.pattern_row-args.ensures.room (omega (arith, h))); shorter = down (falls s) (down c.pattern_joined-quoted.ensures.shorter (down c.in-Ok.ensures.shorter c.pattern_row-args.ensures.shorter)) }

pub pattern::pattern_one-returns-in-Ok-Send : goal.pattern::pattern_one-returns-in-Ok-Send
pattern::pattern_one-returns-in-Ok-Send t c =
    let r = at_step after_part_step _ _ c.in-Ok-Send.field-0-is c.in-Ok-Send.ensures.reads in
    let m = subst (HasRoomForPart c.args.free) c.in-Ok-Send.field-0-is c.in-Ok-Send.ensures.room in
    let s = subst (PassesPart _ _) c.in-Ok-Send.field-0-is c.in-Ok-Send.ensures.shorter in
    record { reads = r _ (c.sent_pattern-in-Ok-Send.ensures.reads _ _ _ c.pattern_row-args-in-Ok-Send.ensures.reads); room = c.sent_pattern-in-Ok-Send.ensures.room c.args.free m (under_free _ c.pattern_row-args-in-Ok-Send.ensures.room (omega (arith, m))); shorter = down (falls s) c.pattern_row-args-in-Ok-Send.ensures.shorter }

pub pattern::pattern_one-returns-in-Ok-Form : goal.pattern::pattern_one-returns-in-Ok-Form
pattern::pattern_one-returns-in-Ok-Form t c =
    let r = at_step after_part_step _ _ c.in-Ok-Form.field-0-is c.in-Ok-Form.ensures.reads in
    let s = subst (PassesPart _ _) c.in-Ok-Form.field-0-is c.in-Ok-Form.ensures.shorter in
    record { reads = r _ (c.closed_form.ensures.reads _ (form_sort c.in-Ok-Form.key) _ _ c.form.ensures.reads); room = c.closed_form.ensures.room c.args.free c.form.ensures.room; shorter = down s c.form.ensures.shorter }

pub pattern::pattern_joined-overflow_sub-free : goal.pattern::pattern_joined-overflow_sub-free
pattern::pattern_joined-overflow_sub-free t c = omega (arith, c.in-GoesOn.ensures.room)

pub pattern::pattern_joined-join-left-requires : goal.pattern::pattern_joined-join-left-requires
pattern::pattern_joined-join-left-requires t c = record { left = omega (arith, c.in-GoesOn.ensures.room, c.ranges.free); right = grows _ c.pattern_joined-right.ensures.room (omega (arith, c.ranges.free)) }

pub pattern::pattern_joined-joined-init : goal.pattern::pattern_joined-joined-init
pattern::pattern_joined-joined-init t c = record { turns = joints_begun _ _ _ _ c.inner-inner.ensures.is c.pattern_joined-left.ensures.reads; room = c.pattern_joined-left.ensures.room; shorter = c.pattern_joined-left.ensures.shorter }

pub pattern::pattern_joined-joined-preserved : goal.pattern::pattern_joined-joined-preserved
pattern::pattern_joined-joined-preserved t c = record { turns = joints_gone_on _ _ _ c.in-GoesOn.first _ _ c.inner-inner.ensures.is (c.in-GoesOn.ensures.reads _ _ c.joined.invariant.turns) c.pattern_joined-right.ensures.reads c.join-left.ensures.reads; room = c.join-left.ensures.room c.args.free c.in-GoesOn.ensures.room (under_free _ c.pattern_joined-right.ensures.room (omega (arith, c.in-GoesOn.ensures.room))); shorter = down c.joined.invariant.shorter (down (falls c.in-GoesOn.ensures.shorter) c.pattern_joined-right.ensures.shorter) }

pub pattern::pattern_joined-joined-smaller : goal.pattern::pattern_joined-joined-smaller
pattern::pattern_joined-joined-smaller t c = under c.in-GoesOn.ensures.shorter (c.pattern_joined-right.ensures.shorter)

pub pattern::pattern_joined-returns-in-Ends : goal.pattern::pattern_joined-returns-in-Ends
pattern::pattern_joined-returns-in-Ends t c = record { reads = joint_as _ _ c.in-Some.is (c.in-Ends.ensures.reads _ _ c.joined.invariant.turns); room = c.in-Ends.ensures.within c.args.free c.joined.invariant.room; shorter = down c.joined.invariant.shorter c.in-Ends.ensures.shorter }

pub pattern::pattern_joined-returns-in-None : goal.pattern::pattern_joined-returns-in-None
pattern::pattern_joined-returns-in-None t c = record { reads = not_as c.args.within c.in-None.is c.pattern_not.ensures.reads; room = c.pattern_not.ensures.room; shorter = c.pattern_not.ensures.shorter }

pub pattern::pattern_not-overflow_sub-free : goal.pattern::pattern_not-overflow_sub-free
pattern::pattern_not-overflow_sub-free t c = subst (HasRoomForPattern c.args.free) c.in-Ok-Not.field-0-is c.in-Ok-Not.ensures.room

pub pattern::pattern_not-overflow_sub-free-in-Ok-Same : goal.pattern::pattern_not-overflow_sub-free-in-Ok-Same
pattern::pattern_not-overflow_sub-free-in-Ok-Same t c = subst (HasRoomForPattern c.args.free) c.in-Ok-Same.field-0-is c.in-Ok-Same.ensures.room

pub pattern::pattern_not-overflow_sub-below : goal.pattern::pattern_not-overflow_sub-below
pattern::pattern_not-overflow_sub-below t c = subst (HasRoomForPattern c.args.free) c.in-Ok-Group.field-0-is c.in-Ok-Group.ensures.room

pub pattern::pattern_not-overflow_sub-free-in-Ok-Members : goal.pattern::pattern_not-overflow_sub-free-in-Ok-Members
pattern::pattern_not-overflow_sub-free-in-Ok-Members t c = subst (HasRoomForPattern c.args.free) c.in-Ok-Members.field-0-is c.in-Ok-Members.ensures.room

pub pattern::pattern_not-close_same-requires : goal.pattern::pattern_not-close_same-requires
pattern::pattern_not-close_same-requires t c = grows _ c.par-body.ensures.room (omega (arith, c.ranges.free))

pub pattern::pattern_not-member_patterns-requires : goal.pattern::pattern_not-member_patterns-requires
pattern::pattern_not-member_patterns-requires t c = grows _ c.pattern_sequence-sequence.ensures.room (omega (arith, c.ranges.free))

pub pattern::pattern_not-negated-requires : goal.pattern::pattern_not-negated-requires
pattern::pattern_not-negated-requires t c = grows _ c.pattern_not-arg.ensures.room (omega (arith, c.ranges.free))

pub pattern::pattern_not-close-requires : goal.pattern::pattern_not-close-requires
pattern::pattern_not-close-requires t c = grows _ c.pattern_par-inner.ensures.room (omega (arith, c.ranges.free))

pub pattern::pattern_not-tuple_pattern-requires : goal.pattern::pattern_not-tuple_pattern-requires
pattern::pattern_not-tuple_pattern-requires t c = record { first = grows _ c.pattern_par-inner.ensures.room (omega (arith, c.ranges.free)); row = grows _ c.pattern_row-row.ensures.room (omega (arith, c.ranges.free)) }

pub pattern::pattern_not-pattern_not-arg-requires : goal.pattern::pattern_not-pattern_not-arg-requires
pattern::pattern_not-pattern_not-arg-requires t c =
    let s = subst (PassesPattern _ _) c.in-Ok-Not.field-0-is c.in-Ok-Not.ensures.shorter in
    (sunk _ _ c.decreases s refl, tt)

pub pattern::pattern_not-par-body-requires : goal.pattern::pattern_not-par-body-requires
pattern::pattern_not-par-body-requires t c =
    let s = subst (PassesPattern _ _) c.in-Ok-Same.field-0-is c.in-Ok-Same.ensures.shorter in
    (sunk _ _ c.decreases s refl, tt)

pub pattern::pattern_not-pattern_par-inner-requires : goal.pattern::pattern_not-pattern_par-inner-requires
pattern::pattern_not-pattern_par-inner-requires t c =
    let s = subst (PassesPattern _ _) c.in-Ok-Group.field-0-is c.in-Ok-Group.ensures.shorter in
    (sunk _ _ c.decreases s refl, tt)

pub pattern::pattern_not-pattern_row-row-requires : goal.pattern::pattern_not-pattern_row-row-requires
pattern::pattern_not-pattern_row-row-requires t c =
    let s = subst (PassesPattern _ _) c.in-Ok-Group.field-0-is c.in-Ok-Group.ensures.shorter in
    (sunk _ _ c.decreases (under s (down c.pattern_par-inner.ensures.shorter (c.skip_after.ensures.shorter))) refl, tt)

pub pattern::pattern_not-pattern_sequence-sequence-requires : goal.pattern::pattern_not-pattern_sequence-sequence-requires
pattern::pattern_not-pattern_sequence-sequence-requires t c =
    let s = subst (PassesPattern _ _) c.in-Ok-Members.field-0-is c.in-Ok-Members.ensures.shorter in
    (sunk _ _ c.decreases s refl, tt)

pub pattern::pattern_not-pattern_block-requires : goal.pattern::pattern_not-pattern_block-requires
pattern::pattern_not-pattern_block-requires t c =
    let s = subst (PassesPattern _ _) c.in-Ok-Block.field-0-is c.in-Ok-Block.ensures.shorter in
    let m = subst (HasRoomForPattern c.args.free) c.in-Ok-Block.field-0-is c.in-Ok-Block.ensures.room in
    (sunk _ _ c.decreases s refl, m)

pub pattern::pattern_not-returns-else-not-skip_after : goal.pattern::pattern_not-returns-else-not-skip_after
pattern::pattern_not-returns-else-not-skip_after t c =
    let r = at_step after_pattern_step _ _ c.in-Ok-Group.field-0-is c.in-Ok-Group.ensures.reads in
    let m = subst (HasRoomForPattern c.args.free) c.in-Ok-Group.field-0-is c.in-Ok-Group.ensures.room in
    let s = subst (PassesPattern _ _) c.in-Ok-Group.field-0-is c.in-Ok-Group.ensures.shorter in
    record { reads = r _ (group_tupled _ patterns of_pat c.pattern_par-inner.result (c.skip_after.ensures.after c.if-not-skip_after.false) (c.skip_after.ensures.is c.if-not-skip_after.false) (c.skip_after.ensures.takes c.if-not-skip_after.false) (under_read _ _ _ of_pat (λ a. last (Sort.Group patterns a)) _ c.pattern_par-inner.ensures.reads) (λ a e. c.tuple_pattern.ensures.reads a e _ _ _ c.pattern_row-row.ensures.reads)); room = c.tuple_pattern.ensures.room c.args.free (under_free _ c.pattern_par-inner.ensures.room m) (under_free _ c.pattern_row-row.ensures.room m); shorter = down (falls s) (down c.pattern_par-inner.ensures.shorter (down c.skip_after.ensures.shorter c.pattern_row-row.ensures.shorter)) }

pub pattern::pattern_not-returns-then-not-skip_after : goal.pattern::pattern_not-returns-then-not-skip_after
pattern::pattern_not-returns-then-not-skip_after t c =
    let r = at_step after_pattern_step _ _ c.in-Ok-Group.field-0-is c.in-Ok-Group.ensures.reads in
    let m = subst (HasRoomForPattern c.args.free) c.in-Ok-Group.field-0-is c.in-Ok-Group.ensures.room in
    let s = subst (PassesPattern _ _) c.in-Ok-Group.field-0-is c.in-Ok-Group.ensures.shorter in
    record { reads = r _ (c.close.ensures.reads pat_written _ _ _ (group_ended c.args.free _ _ patterns of_pat c.pattern_par-inner.result (c.skip_after.ensures.stays c.if-not-skip_after.true) (c.skip_after.ensures.ends c.if-not-skip_after.true) (under_read _ _ _ of_pat (λ a. last (Sort.Group patterns a)) _ c.pattern_par-inner.ensures.reads))); room = c.close.ensures.room c.args.free (under_free _ c.pattern_par-inner.ensures.room m); shorter = down (falls s) (down c.pattern_par-inner.ensures.shorter (down c.skip_after.ensures.shorter c.close.ensures.shorter)) }

pub pattern::pattern_not-returns-in-Err : goal.pattern::pattern_not-returns-in-Err
pattern::pattern_not-returns-in-Err t c = record { reads = c.in-Err.ensures.reads; room = tt; shorter = c.in-Err.ensures.shorter }

pub pattern::pattern_not-returns-in-Ok-Members : goal.pattern::pattern_not-returns-in-Ok-Members
pattern::pattern_not-returns-in-Ok-Members t c =
    let r = at_step after_pattern_step _ _ c.in-Ok-Members.field-0-is c.in-Ok-Members.ensures.reads in
    let m = subst (HasRoomForPattern c.args.free) c.in-Ok-Members.field-0-is c.in-Ok-Members.ensures.room in
    let s = subst (PassesPattern _ _) c.in-Ok-Members.field-0-is c.in-Ok-Members.ensures.shorter in
    record { reads = r _ (c.member_patterns.ensures.reads _ _ _ _ (under_read _ _ _ of_sequence (λ a. done (opened (member_patterns_of c.in-Ok-Members.bracket a.tree) a.height)) _ c.pattern_sequence-sequence.ensures.reads)); room = c.member_patterns.ensures.room c.args.free (under_free _ c.pattern_sequence-sequence.ensures.room m); shorter = down (falls s) c.pattern_sequence-sequence.ensures.shorter }

pub pattern::pattern_not-returns-in-Ok-Not : goal.pattern::pattern_not-returns-in-Ok-Not
pattern::pattern_not-returns-in-Ok-Not t c =
    let r = at_step after_pattern_step _ _ c.in-Ok-Not.field-0-is c.in-Ok-Not.ensures.reads in
    let m = subst (HasRoomForPattern c.args.free) c.in-Ok-Not.field-0-is c.in-Ok-Not.ensures.room in
    let s = subst (PassesPattern _ _) c.in-Ok-Not.field-0-is c.in-Ok-Not.ensures.shorter in
    record { reads = r _ (c.negated.ensures.reads _ _ _ _ (under_read _ _ _ of_pat (λ a. done (opened (not_of a.tree) a.height)) _ c.pattern_not-arg.ensures.reads)); room = c.negated.ensures.room c.args.free (under_free _ c.pattern_not-arg.ensures.room m); shorter = down (falls s) c.pattern_not-arg.ensures.shorter }

pub pattern::pattern_not-returns-in-Ok-Plain : goal.pattern::pattern_not-returns-in-Ok-Plain
pattern::pattern_not-returns-in-Ok-Plain t c =
    let r = at_step after_pattern_step _ _ c.in-Ok-Plain.field-0-is c.in-Ok-Plain.ensures.reads in
    let m = subst (HasRoomForPattern c.args.free) c.in-Ok-Plain.field-0-is c.in-Ok-Plain.ensures.room in
    let s = subst (PassesPattern _ _) c.in-Ok-Plain.field-0-is c.in-Ok-Plain.ensures.shorter in
    record { reads = r _ (c.plain_pattern.ensures.reads _); room = fits _ c.plain_pattern.ensures.height m; shorter = down s c.plain_pattern.ensures.shorter }

pub pattern::pattern_not-returns-in-Ok-Same : goal.pattern::pattern_not-returns-in-Ok-Same
pattern::pattern_not-returns-in-Ok-Same t c =
    let r = at_step after_pattern_step _ _ c.in-Ok-Same.field-0-is c.in-Ok-Same.ensures.reads in
    let m = subst (HasRoomForPattern c.args.free) c.in-Ok-Same.field-0-is c.in-Ok-Same.ensures.room in
    let s = subst (PassesPattern _ _) c.in-Ok-Same.field-0-is c.in-Ok-Same.ensures.shorter in
    record { reads = r _ (c.close_same.ensures.reads _ _ _ (under_read _ _ _ of_proc (λ a. sign CloseBrace (done (opened (same_of a.tree) a.height))) _ c.par-body.ensures.reads)); room = c.close_same.ensures.room c.args.free (under_free _ c.par-body.ensures.room m); shorter = down (falls s) (down c.par-body.ensures.shorter c.close_same.ensures.shorter) }

pub pattern::pattern_not-returns-in-Ok-Block : goal.pattern::pattern_not-returns-in-Ok-Block
pattern::pattern_not-returns-in-Ok-Block t c =
    let r = at_step after_pattern_step _ _ c.in-Ok-Block.field-0-is c.in-Ok-Block.ensures.reads in
    let s = subst (PassesPattern _ _) c.in-Ok-Block.field-0-is c.in-Ok-Block.ensures.shorter in
    record { reads = r _ c.pattern_block.ensures.reads; room = c.pattern_block.ensures.room; shorter = down (falls s) c.pattern_block.ensures.shorter }

pub pattern::pattern_name-pattern_joined-quoted-requires : goal.pattern::pattern_name-pattern_joined-quoted-requires
pattern::pattern_name-pattern_joined-quoted-requires t c = (sunk _ _ c.decreases ((c.skip.ensures.less c.if-not-skip.false)) refl, tt)

pub pattern::pattern_name-returns : goal.pattern::pattern_name-returns
pattern::pattern_name-returns t c = record { reads = pattern_name_at (sym c.sees.ensures ∙ c.if-sees.false) (sym c.skip.ensures.is ∙ c.if-not-skip.false) (runs_sign (c.skip.ensures.takes c.if-not-skip.false) (c.quoted_pattern.ensures.reads _ _ _ _ (at_read _ _ of_pat (λ a. done (spelt (quoted_of a.tree) a.height)) _ c.pattern_joined-quoted.ensures.reads))); room = c.quoted_pattern.ensures.room _ c.pattern_joined-quoted.ensures.room; shorter = down c.skip.ensures.shorter c.pattern_joined-quoted.ensures.shorter }

pub pattern::pattern_name-returns-then-not-skip : goal.pattern::pattern_name-returns-then-not-skip
pattern::pattern_name-returns-then-not-skip t c = record { reads = pattern_name_plain (sym c.sees.ensures ∙ c.if-sees.false) (sym c.skip.ensures.is ∙ c.if-not-skip.true) (unmoved (c.skip.ensures.stays c.if-not-skip.true) (c.name_bound.ensures.reads _)); room = fits _ c.name_bound.ensures.height (omega arith); shorter = down c.skip.ensures.shorter c.name_bound.ensures.shorter }

pub pattern::pattern_name-returns-then-sees : goal.pattern::pattern_name-returns-then-sees
pattern::pattern_name-returns-then-sees t c = record { reads = pattern_name_any (sym c.sees.ensures ∙ c.if-sees.true) (c.name_any.ensures.reads _); room = fits _ c.name_any.ensures.height (omega arith); shorter = c.name_any.ensures.shorter }

pub pattern_atom::pattern_row-pattern_par-first-requires : goal.pattern_atom::pattern_row-pattern_par-first-requires
pattern_atom::pattern_row-pattern_par-first-requires t c = (lower _ _ _ c.decreases refl, tt)

pub pattern_atom::pattern_row-pattern_par-next-requires : goal.pattern_atom::pattern_row-pattern_par-next-requires
pattern_atom::pattern_row-pattern_par-next-requires t c = (sunk _ _ c.decreases (beneath c.each.invariant.shorter ((c.skip_after.ensures.less c.each-test.true))) refl, tt)

pub pattern_atom::pattern_row-each-init : goal.pattern_atom::pattern_row-each-init
pattern_atom::pattern_row-each-init t c = record { turns = row_first _ _ patterns (bracket_of c.args.bracket) pat_written _ (sym c.sees_closing.ensures ∙ c.if-sees_closing.false) c.pattern_par-first.ensures.reads c.first_of-members.ensures.reads; room = c.first_of-members.ensures.room _ c.pattern_par-first.ensures.room; shorter = c.pattern_par-first.ensures.shorter }

pub pattern_atom::pattern_row-each-preserved : goal.pattern_atom::pattern_row-each-preserved
pattern_atom::pattern_row-each-preserved t c = record { turns = row_goes_on _ _ _ c.each.members _ _ patterns (bracket_of c.args.bracket) pat_written (c.skip_after.ensures.after c.each-test.true) (c.skip_after.ensures.is c.each-test.true) (c.skip_after.ensures.takes c.each-test.true) c.each.invariant.turns c.pattern_par-next.ensures.reads c.then_one_more-members.ensures.reads; room = c.then_one_more-members.ensures.room _ c.each.invariant.room c.pattern_par-next.ensures.room; shorter = down c.each.invariant.shorter (down c.skip_after.ensures.shorter c.pattern_par-next.ensures.shorter) }

pub pattern_atom::pattern_row-each-smaller : goal.pattern_atom::pattern_row-each-smaller
pattern_atom::pattern_row-each-smaller t c = under (c.skip_after.ensures.less c.each-test.true) (c.pattern_par-next.ensures.shorter)

pub pattern_atom::pattern_row-returns : goal.pattern_atom::pattern_row-returns
pattern_atom::pattern_row-returns t c = record { reads = row_ended _ _ c.each.members _ patterns (bracket_of c.args.bracket) pat_written c.closing_mark.result c.closing_mark.ensures (subst (λ ts. OnOk c.each.members (sees Comma ts ≡ false)) (sym (c.skip_after.ensures.stays c.each-test.false)) (c.skip_after.ensures.ends c.each-test.false)) (stayed c.args.free _ _ _ c.each.members (c.skip_after.ensures.stays c.each-test.false) c.each.invariant.turns) c.then_mark.ensures.reads; room = if_same c.args.free c.each.members _ c.then_mark.ensures.same c.each.invariant.room; shorter = down c.each.invariant.shorter (down c.skip_after.ensures.shorter (no_longer _ c.then_mark.ensures.shorter)) }

pub pattern_atom::pattern_row-returns-then-sees_closing : goal.pattern_atom::pattern_row-returns-then-sees_closing
pattern_atom::pattern_row-returns-then-sees_closing t c = record { reads = row_empty _ _ (sym c.sees_closing.ensures ∙ c.if-sees_closing.true) (c.pattern_row_none.ensures.reads _); room = fits _ c.pattern_row_none.ensures.height (omega arith); shorter = c.pattern_row_none.ensures.shorter }

pub pattern_atom::pattern_sequence-close_sequence-requires : goal.pattern_atom::pattern_sequence-close_sequence-requires
pattern_atom::pattern_sequence-close_sequence-requires t c = subst (λ ts. OnOk c.each.pats (sees_member ts ≡ false)) (sym (c.skip_comma_after.ensures.stays c.each-test.false)) (c.skip_comma_after.ensures.ends c.each-test.false)

pub pattern_atom::pattern_sequence-pattern_par-first-requires : goal.pattern_atom::pattern_sequence-pattern_par-first-requires
pattern_atom::pattern_sequence-pattern_par-first-requires t c = (lower _ _ _ c.decreases refl, tt)

pub pattern_atom::pattern_sequence-pattern_par-next-requires : goal.pattern_atom::pattern_sequence-pattern_par-next-requires
pattern_atom::pattern_sequence-pattern_par-next-requires t c = (sunk _ _ c.decreases (beneath c.each.invariant.shorter ((c.skip_comma_after.ensures.less c.each-test.true))) refl, tt)

pub pattern_atom::pattern_sequence-each-init : goal.pattern_atom::pattern_sequence-each-init
pattern_atom::pattern_sequence-each-init t c = record { turns = sequence_first _ _ (bracket_of c.args.bracket) _ (sym c.sees_closing.ensures ∙ c.if-sees_closing.false) (sym c.sees.ensures ∙ c.if-sees.false) c.pattern_par-first.ensures.reads c.first_of-pats.ensures.reads; room = c.first_of-pats.ensures.room _ c.pattern_par-first.ensures.room; shorter = c.pattern_par-first.ensures.shorter }

pub pattern_atom::pattern_sequence-each-preserved : goal.pattern_atom::pattern_sequence-each-preserved
pattern_atom::pattern_sequence-each-preserved t c = record { turns = sequence_goes_on _ _ _ c.each.pats _ _ (bracket_of c.args.bracket) (c.skip_comma_after.ensures.after c.each-test.true) (c.skip_comma_after.ensures.is c.each-test.true) (c.skip_comma_after.ensures.takes c.each-test.true) c.each.invariant.turns c.pattern_par-next.ensures.reads c.then_one_more-pats.ensures.reads; room = c.then_one_more-pats.ensures.room _ c.each.invariant.room c.pattern_par-next.ensures.room; shorter = down c.each.invariant.shorter (down c.skip_comma_after.ensures.shorter c.pattern_par-next.ensures.shorter) }

pub pattern_atom::pattern_sequence-each-smaller : goal.pattern_atom::pattern_sequence-each-smaller
pattern_atom::pattern_sequence-each-smaller t c = under (c.skip_comma_after.ensures.less c.each-test.true) (c.pattern_par-next.ensures.shorter)

pub pattern_atom::pattern_sequence-returns : goal.pattern_atom::pattern_sequence-returns
pattern_atom::pattern_sequence-returns t c = record { reads = c.close_sequence.ensures.reads _ _ _ (stayed c.args.free _ _ _ c.each.pats (c.skip_comma_after.ensures.stays c.each-test.false) c.each.invariant.turns); room = c.close_sequence.ensures.room _ c.each.invariant.room; shorter = down c.each.invariant.shorter (down c.skip_comma_after.ensures.shorter c.close_sequence.ensures.shorter) }

pub pattern_atom::pattern_sequence-returns-then-sees : goal.pattern_atom::pattern_sequence-returns-then-sees
pattern_atom::pattern_sequence-returns-then-sees t c = record { reads = sequence_rest _ (sym c.sees_closing.ensures ∙ c.if-sees_closing.false) (sym c.sees.ensures ∙ c.if-sees.true) (c.sequence_only_rest.ensures.reads _); room = fits _ c.sequence_only_rest.ensures.height (omega arith); shorter = c.sequence_only_rest.ensures.shorter }

pub pattern_atom::pattern_sequence-returns-then-sees_closing : goal.pattern_atom::pattern_sequence-returns-then-sees_closing
pattern_atom::pattern_sequence-returns-then-sees_closing t c = record { reads = sequence_empty _ (sym c.sees_closing.ensures ∙ c.if-sees_closing.true) (c.sequence_none.ensures.reads _); room = fits _ c.sequence_none.ensures.height (omega arith); shorter = c.sequence_none.ensures.shorter }

pub pattern_atom::pattern_block-overflow_sub-below : goal.pattern_atom::pattern_block-overflow_sub-below
pattern_atom::pattern_block-overflow_sub-below t c = c.requires

pub pattern_atom::pattern_block-close_pairs-requires : goal.pattern_atom::pattern_block-close_pairs-requires
pattern_atom::pattern_block-close_pairs-requires t c = record { member = subst (λ ts. OnOk c.each.pairs (sees_member ts ≡ false)) (sym (c.skip_comma_after.ensures.stays c.each-test.false)) (c.skip_comma_after.ensures.ends c.each-test.false); room = grows _ c.each.invariant.room (omega (arith, c.ranges.free)) }

pub pattern_atom::pattern_block-close-requires : goal.pattern_atom::pattern_block-close-requires
pattern_atom::pattern_block-close-requires t c = grows _ c.pattern_par-first.ensures.room (omega (arith, c.ranges.free))

pub pattern_atom::pattern_block-pattern_par-first-requires : goal.pattern_atom::pattern_block-pattern_par-first-requires
pattern_atom::pattern_block-pattern_par-first-requires t c = (lower _ _ _ c.decreases refl, tt)

pub pattern_atom::pattern_block-pattern_par-value-requires : goal.pattern_atom::pattern_block-pattern_par-value-requires
pattern_atom::pattern_block-pattern_par-value-requires t c = (sunk _ _ c.decreases (beneath c.pattern_par-first.ensures.shorter ((c.skip_after.ensures.less c.if-not-skip_after.false))) refl, tt)

pub pattern_atom::pattern_block-pattern_par-found-requires : goal.pattern_atom::pattern_block-pattern_par-found-requires
pattern_atom::pattern_block-pattern_par-found-requires t c = (sunk _ _ c.decreases (beneath (falls c.each.invariant.shorter) ((c.skip_comma_after.ensures.less c.each-test.true))) refl, tt)

pub pattern_atom::pattern_block-pattern_par-requires : goal.pattern_atom::pattern_block-pattern_par-requires
pattern_atom::pattern_block-pattern_par-requires t c = (sunk _ _ c.decreases (beneath (falls c.each.invariant.shorter) (under (c.skip_comma_after.ensures.less c.each-test.true) (down c.pattern_par-found.ensures.shorter ((falls c.in-Ok.ensures.shorter))))) refl, tt)

pub pattern_atom::pattern_block-each-init : goal.pattern_atom::pattern_block-each-init
pattern_atom::pattern_block-each-init t c = record { turns = pattern_block_first c.args.free _ _ _ c.pattern_par-first.result _ _ (c.skip_after.ensures.after c.if-not-skip_after.false) (c.skip_after.ensures.is c.if-not-skip_after.false) (c.skip_after.ensures.takes c.if-not-skip_after.false) (under_read _ _ _ of_pat (λ a. last (Sort.PBraceTail a)) _ c.pattern_par-first.ensures.reads) c.pattern_par-value.ensures.reads c.first_pair-pairs.ensures.reads; room = c.first_pair-pairs.ensures.room (c.args.free - 1) c.pattern_par-first.ensures.room c.pattern_par-value.ensures.room; shorter = omega (arith, c.pattern_par-first.ensures.shorter, c.skip_after.ensures.less c.if-not-skip_after.false, c.pattern_par-value.ensures.shorter) }

pub pattern_atom::pattern_block-each-preserved : goal.pattern_atom::pattern_block-each-preserved
pattern_atom::pattern_block-each-preserved t c =
    let k = if_read (λ p. p.height ≤ c.args.free - 1) _ c.in-Ok.ensures.same c.pattern_par-found.ensures.room in
    record { turns = pattern_block_goes_on c.args.free _ _ _ c.each.pairs _ _ (c.skip_comma_after.ensures.after c.each-test.true) (c.skip_comma_after.ensures.is c.each-test.true) (c.skip_comma_after.ensures.takes c.each-test.true) c.each.invariant.turns (pair_read c.args.free _ _ _ _ _ patterns pat_written c.in-Ok.key c.pattern_par-found.ensures.reads c.in-Ok.ensures.reads c.pattern_par.ensures.reads c.paired-next.ensures.reads) c.then_one_more-pairs.ensures.reads; room = c.then_one_more-pairs.ensures.room (c.args.free - 1) c.each.invariant.room (c.paired-next.ensures.room (c.args.free - 1) k c.pattern_par.ensures.room); shorter = omega (arith, c.each.invariant.shorter, c.skip_comma_after.ensures.shorter, c.pattern_par-found.ensures.shorter, c.in-Ok.ensures.shorter, c.pattern_par.ensures.shorter) }

pub pattern_atom::pattern_block-each-smaller : goal.pattern_atom::pattern_block-each-smaller
pattern_atom::pattern_block-each-smaller t c = under (c.skip_comma_after.ensures.less c.each-test.true) (down c.pattern_par-found.ensures.shorter (down (falls c.in-Ok.ensures.shorter) (c.pattern_par.ensures.shorter)))

pub pattern_atom::pattern_block-returns : goal.pattern_atom::pattern_block-returns
pattern_atom::pattern_block-returns t c = record { reads = c.close_pairs.ensures.reads _ _ _ (stayed c.args.free _ _ _ c.each.pairs (c.skip_comma_after.ensures.stays c.each-test.false) c.each.invariant.turns); room = c.close_pairs.ensures.room c.args.free (under_free _ c.each.invariant.room (omega (arith, c.requires))); shorter = down (falls c.each.invariant.shorter) (down c.skip_comma_after.ensures.shorter c.close_pairs.ensures.shorter) }

pub pattern_atom::pattern_block-returns-then-not-skip_after : goal.pattern_atom::pattern_block-returns-then-not-skip_after
pattern_atom::pattern_block-returns-then-not-skip_after t c = record { reads = c.close.ensures.reads pat_written _ _ _ (pattern_block_closed c.args.free _ _ c.pattern_par-first.result (c.skip_after.ensures.stays c.if-not-skip_after.true) (c.skip_after.ensures.ends c.if-not-skip_after.true) (under_read _ _ _ of_pat (λ a. last (Sort.PBraceTail a)) _ c.pattern_par-first.ensures.reads)); room = c.close.ensures.room c.args.free (under_free _ c.pattern_par-first.ensures.room c.requires); shorter = down c.pattern_par-first.ensures.shorter (down c.skip_after.ensures.shorter c.close.ensures.shorter) }

pub pattern_atom::pattern_block-returns-in-Err : goal.pattern_atom::pattern_block-returns-in-Err
pattern_atom::pattern_block-returns-in-Err t c = record { reads = gives_up of_pat _ _ c.give_up.ensures (pattern_block_goes_on c.args.free _ _ _ c.each.pairs (Err c.in-Err.fault) (Err c.in-Err.fault) (c.skip_comma_after.ensures.after c.each-test.true) (c.skip_comma_after.ensures.is c.each-test.true) (c.skip_comma_after.ensures.takes c.each-test.true) c.each.invariant.turns (λ after. no_pair _ _ patterns pat_written after c.in-Err.fault c.pattern_par-found.ensures.reads c.in-Err.ensures.reads) (no_more _ _)); room = none_given c.args.free _ _ c.give_up.ensures; shorter = down (falls c.each.invariant.shorter) (down c.skip_comma_after.ensures.shorter (down c.pattern_par-found.ensures.shorter c.in-Err.ensures.shorter)) }
