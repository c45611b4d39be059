use Rattle.std.proofs.Common.{◌+◌, ◌-◌, ◌++◌, length, take, drop, get_or, string_bytes, refl, sym, ◌∙◌, ap, arith}
use Rattle.std.specs.Prelude.{Some}
use Rattle.rho_lexer.proofs.Faults.{read_exit, string_fault}
use Rattle.rho_lexer.proofs.Strings.{nothing_yet, string_open}
use Rattle.rho_lexer.proofs.Reading.{run_is, piece_is, pieces_on, string_closed, escape_fault, escaped_on, before_end, backslash_there, two_there, escaped_small}
use Rattle.rho_lexer.proofs.quoted.string.Goals as goal

pub loop-contents-init : goal.loop-contents-init
loop-contents-init c = record { within = omega arith; good = nothing_yet ∙ ap Some (sym c.new-contents.ensures.bytes) }

pub returns-in_err-plain : goal.returns-in_err-plain
returns-in_err-plain c = read_exit _ c.from_residual.result c.in_err-plain.field-0.0 c.from_residual.ensures.1
    (string_fault c.args.at c.args.rest.now c.loop-contents.len c.plain_run-run.result _ _ _ c.loop-contents.invariant.within c.loop-contents.invariant.good
    (run_is c.args.rest.now c.loop-contents.len c.plain_run-run.result c.plain_run-run.ensures.value)
    (piece_is c.args.rest.now c.loop-contents.len c.plain_run-run.result) c.in_err-plain.ensures.err)

pub returns-then-len-rest : goal.returns-then-len-rest
returns-then-len-rest c = string_open c.args.at c.args.rest.now (c.loop-contents.len + c.plain_run-run.result) _ c.if-len-rest.true
    (pieces_on c.args.rest.now c.loop-contents.len c.plain_run-run.result _ _ c.loop-contents.invariant.good c.plain_run-run.ensures.value
    c.in_ok-plain.ensures.ok.0 c.in_ok-plain.ensures.ok.1)

pub returns-then-rest-len-eq34 : goal.returns-then-rest-len-eq34
returns-then-rest-len-eq34 c =
    let within = before_end c.args.rest.now c.loop-contents.len c.plain_run-run.result c.loop-contents.invariant.within c.plain_run-run.ensures.within c.if-len-rest.false in
    string_closed c.args.at c.args.rest.now (c.loop-contents.len + c.plain_run-run.result) _ within
    (pieces_on c.args.rest.now c.loop-contents.len c.plain_run-run.result _ _ c.loop-contents.invariant.good c.plain_run-run.ensures.value
    c.in_ok-plain.ensures.ok.0 c.in_ok-plain.ensures.ok.1 ∙ ap Some (sym c.in_ok-push_str.ensures.bytes))
    c.if-rest-len-eq34.true

pub returns-in_err-character : goal.returns-in_err-character
returns-in_err-character c =
    let within = before_end c.args.rest.now c.loop-contents.len c.plain_run-run.result c.loop-contents.invariant.within c.plain_run-run.ensures.within c.if-len-rest.false in
    read_exit _ c.from_residual-in_err-character.result c.in_err-character.field-0.0 c.from_residual-in_err-character.ensures.1
    (escape_fault c.args.at c.args.rest.now (c.loop-contents.len + c.plain_run-run.result) _ _ _ within
    (pieces_on c.args.rest.now c.loop-contents.len c.plain_run-run.result _ _ c.loop-contents.invariant.good c.plain_run-run.ensures.value
    c.in_ok-plain.ensures.ok.0 c.in_ok-plain.ensures.ok.1)
    (backslash_there c.args.rest.now c.loop-contents.len c.plain_run-run.result c.plain_run-run.ensures.value within c.if-rest-len-eq34.false)
    refl c.in_err-character.ensures.none c.in_err-character.ensures.err)

pub loop-contents-preserved : goal.loop-contents-preserved
loop-contents-preserved c =
    let within = before_end c.args.rest.now c.loop-contents.len c.plain_run-run.result c.loop-contents.invariant.within c.plain_run-run.ensures.within c.if-len-rest.false in
    let ok = c.in_ok-character.ensures.ok in
    let some = c.in_ok-character.ensures.some in
    record {
      within = two_there c.args.rest.now (c.loop-contents.len + c.plain_run-run.result) some;
      good = escaped_on c.args.rest.now (c.loop-contents.len + c.plain_run-run.result) _ _ c.in_ok-character.character within
          (pieces_on c.args.rest.now c.loop-contents.len c.plain_run-run.result _ _ c.loop-contents.invariant.good c.plain_run-run.ensures.value
          c.in_ok-plain.ensures.ok.0 c.in_ok-plain.ensures.ok.1 ∙ ap Some (sym c.in_ok-push_str.ensures.bytes))
          (backslash_there c.args.rest.now c.loop-contents.len c.plain_run-run.result c.plain_run-run.ensures.value within c.if-rest-len-eq34.false)
          refl some ok
          ∙ ap Some (sym (c.in_ok-push.ensures.bytes ∙ ap (λ bs. string_bytes c.push_str.new.self ++ bs) (c.in_ok-push.ensures.ascii (escaped_small (get_or (take (length c.args.rest.now - (c.loop-contents.len + c.plain_run-run.result + 1)) (drop (c.loop-contents.len + c.plain_run-run.result + 1) c.args.rest.now)) 0 0) _ ok))));
    }
