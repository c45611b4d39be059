use Rattle.std.proofs.Common.{sym, ◌∙◌, subst}
use Rattle.match_targets.specs.Targets.{AllReady}
use Rattle.calculus.specs.Form.{term}
use Rattle.row_search.proofs.Known.{as-row, send-args}
use Rattle.row_search.proofs.Taking.{send-none, send-some}
use Rattle.row_search.proofs.choices.take_send.Goals as goal

pub match_bind-requires-clause-args : goal.match_bind-requires-clause-args
match_bind-requires-clause-args c =
    let p = c.in-Produce in
    let e = as-row c.args.row.now _ _ c.op.ensures.is p.is in
    subst (AllReady term) (sym c.deref.ensures.value) (send-args c.args.row.now p.id p.channel p.args p.persistent e c.op.ensures.storable)

pub returns-in-None : goal.returns-in-None
returns-in-None c =
    let p = c.in-Produce in
    let e = as-row c.args.row.now _ _ c.op.ensures.is p.is in
    send-none c.args.bind.now c.args.row.now p.id p.channel p.args p.persistent e (sym c.same_channel.ensures ∙ c.if-not-same_channel.false) c.deref.result.now c.deref.ensures.value
    c.in_ok-match_bind-in-Produce.field-0 c.in-None.is c.in_ok-match_bind-in-Produce.ensures

pub returns-in-Some : goal.returns-in-Some
returns-in-Some c =
    let p = c.in-Produce in
    let e = as-row c.args.row.now _ _ c.op.ensures.is p.is in
    send-some c.args.bind.now c.args.row.now p.id p.channel p.args p.persistent e (sym c.same_channel.ensures ∙ c.if-not-same_channel.false) c.deref.result.now c.deref.ensures.value
    c.in_ok-match_bind-in-Produce.field-0 c.in-Some.bound c.in-Some.is c.in_ok-match_bind-in-Produce.ensures c.op.ensures.storable
