use Rattle.std.proofs.Common.{sym, subst}
use Rattle.row_search.specs.Choices.{AllBindsReady}
use Rattle.row_search.proofs.Known.{as-row, binds-ready}
use Rattle.row_meeting.proofs.Receiving.{known-told}
use Rattle.row_meeting.proofs.meeting.meet_rows.Goals as goal

pub take_sends-requires : goal.take_sends-requires
take_sends-requires c =
    let p = c.in-Consume in
    subst AllBindsReady (sym c.deref.ensures.value) (binds-ready c.args.receiver.now p.id p.kind p.binds p.body (as-row c.args.receiver.now _ _ c.op.ensures.is p.is) c.op.ensures.storable)

pub returns-in-Consume : goal.returns-in-Consume
returns-in-Consume c =
    let p = c.in-Consume in
    let e = as-row c.args.receiver.now _ _ c.op.ensures.is p.is in
    known-told c.args.receiver.now p.id p.kind p.binds p.body c.deref.result.now e c.deref.ensures.value c.args.sends.now c.op.ensures.storable c.take_sends.result c.take_sends.ensures
