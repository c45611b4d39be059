use Rattle.std.proofs.Common.{sym, subst}
use Rattle.row_search.specs.Choices.{AllBindsReady}
use Rattle.row_search.proofs.Known.{as-row, binds-ready}
use Rattle.row_search.proofs.Answering.{lent-none, lent-some}
use Rattle.row_search.proofs.found.meet_receiver.Goals as goal

pub join-requires : goal.join-requires
join-requires g c =
    let p = c.in-Consume in
    subst AllBindsReady (sym c.deref.ensures.value) (binds-ready c.args.receiver.now p.id p.kind p.binds p.body (as-row c.args.receiver.now _ _ c.op.ensures.is p.is) c.op.ensures.storable)

pub returns-in-None : goal.returns-in-None
returns-in-None g c =
    let p = c.in-Consume in
    let e = as-row c.args.receiver.now _ _ c.op.ensures.is p.is in
    lent-none (g.S.RowsAtHand.rows c.args.store.now) c.args.op.now c.args.receiver.now p.id p.kind p.binds p.body c.deref.result.now e c.deref.ensures.value c.op.ensures.storable
    c.in_ok-join-in-Consume.field-0 c.in-None.is c.in_ok-join-in-Consume.ensures

pub returns-in_ok-finish-in-Some : goal.returns-in_ok-finish-in-Some
returns-in_ok-finish-in-Some g c =
    let p = c.in-Consume in
    let e = as-row c.args.receiver.now _ _ c.op.ensures.is p.is in
    lent-some (g.S.RowsAtHand.rows c.args.store.now) c.args.op.now c.args.receiver.now p.id p.kind p.binds p.body c.deref.result.now e c.deref.ensures.value c.op.ensures.storable
    c.in_ok-join-in-Consume.field-0 c.in-Some.joined c.in_ok-finish-in-Some.field-0 c.in-Some.is c.in_ok-join-in-Consume.ensures c.requires.may c.requires.at_hand c.in_ok-finish-in-Some.ensures
