use Rattle.std.proofs.Common.{◌∙◌, arith}
use Rattle.rho_lexer.proofs.Faults.{read_exit, uri_fault}
use Rattle.rho_lexer.proofs.Uris.{uri_open, uri_closed}
use Rattle.rho_lexer.proofs.quoted.uri.Goals as goal

pub returns-in_err-inside : goal.returns-in_err-inside
returns-in_err-inside c = read_exit _ c.from_residual.result c.in_err-inside.field-0.0 c.from_residual.ensures.1
    (uri_fault c.args.at c.args.rest.now c.inside_run-len.result _ c.inside_run-len.ensures.value c.in_err-inside.ensures.err)

pub returns-then-len-rest : goal.returns-then-len-rest
returns-then-len-rest c = uri_open c.args.at c.args.rest.now c.inside_run-len.result c.inside_run-len.ensures.value c.if-len-rest.true c.in_ok-inside.ensures.ok.1

pub returns : goal.returns
returns c =
    let bound = c.inside_run-len.ensures.within in
    let other = c.if-len-rest.false in
    uri_closed c.args.at c.args.rest.now c.inside_run-len.result _ c.inside_run-len.ensures.value (omega arith) c.in_ok-inside.ensures.ok.1
    (c.in_ok-contents.ensures.ok ∙ c.in_ok-inside.ensures.ok.0)
