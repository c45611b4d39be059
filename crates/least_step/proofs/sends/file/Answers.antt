use Rattle.std.proofs.Common.{sym, ap, ◌∙◌}
use Rattle.std.specs.Str.{bytes_eq}
use Rattle.row_search.proofs.Known.{as-row, send-channel}
use Rattle.least_step.proofs.Filing.{no-send, one-send, put-kept, receive-on, receive-ready, send-on, send-ready, when-ok}
use Rattle.least_step.proofs.sends.file.Goals as goal

pub returns-in-Consume-clause-filed : goal.returns-in-Consume-clause-filed
returns-in-Consume-clause-filed c =
    let p = c.in-Consume in
    let r = c.args.row.now in
    let e = as-row r _ _ c.op.ensures.is p.is in
    λ before k. no-send before r (receive-ready r p.id p.kind p.binds p.body e) _ k (receive-on r p.id p.kind p.binds p.body e)

pub returns-in_ok-code-in-Produce-clause-filed : goal.returns-in_ok-code-in-Produce-clause-filed
returns-in_ok-code-in-Produce-clause-filed c =
    let p = c.in-Produce in
    let r = c.args.row.now in
    let e = as-row r _ _ c.op.ensures.is p.is in
    let code = c.in_ok-code-in-Produce.code.items in
    let ready = send-ready r p.id p.channel p.args p.persistent e (send-channel r p.id p.channel p.args p.persistent e c.op.ensures.storable) in
    λ before k. when-ok _ _ c.put_under.result (λ u. one-send before r ready _ k code (λ x. send-on r p.id p.channel p.args p.persistent e x ∙ ap (bytes_eq x) (sym c.in_ok-code-in-Produce.ensures)) _ u) c.put_under.ensures

pub returns-in_ok-code-in-Produce-clause-kept : goal.returns-in_ok-code-in-Produce-clause-kept
returns-in_ok-code-in-Produce-clause-kept c =
    when-ok _ _ c.put_under.result (put-kept c.in_ok-code-in-Produce.code.items c.args.row.now c.args.sends.now.entries c.put_under.new.sends.entries) c.put_under.ensures
