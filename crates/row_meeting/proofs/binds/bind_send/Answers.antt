use Rattle.std.proofs.Common.{sym, ◌∙◌, subst}
use Rattle.match_targets.specs.Targets.{AllReady}
use Rattle.calculus.specs.Form.{term}
use Rattle.row_search.proofs.Known.{as-row, send-args}
use Rattle.row_meeting.proofs.Taking.{send-bound}
use Rattle.row_meeting.proofs.binds.bind_send.Goals as goal

pub match_bind-requires-clause-args : goal.match_bind-requires-clause-args
match_bind-requires-clause-args c =
    let p = c.in-Produce in
    let e = as-row c.args.row.now _ _ c.op.ensures.is p.is in
    subst (AllReady term) (sym c.deref.ensures.value) (send-args c.args.row.now p.id p.channel p.args p.persistent e c.op.ensures.storable)

pub returns-else-not-same_channel : goal.returns-else-not-same_channel
returns-else-not-same_channel c =
    let p = c.in-Produce in
    let e = as-row c.args.row.now _ _ c.op.ensures.is p.is in
    send-bound c.args.bind.now c.args.row.now p.id p.channel p.args p.persistent e (sym c.same_channel.ensures ∙ c.if-not-same_channel.false) c.deref.result.now c.deref.ensures.value c.op.ensures.storable
    c.match_bind.result c.match_bind.ensures
