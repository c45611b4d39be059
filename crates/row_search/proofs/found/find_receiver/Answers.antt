use Rattle.std.proofs.Common.{List, map, sym, ◌∙◌, subst}
use Rattle.calculus.specs.declared.ids.Digest.{Digest}
use Rattle.row_search.specs.Rows.{looked_up}
use Rattle.row_search.specs.Meetings.{IsFound}
use Rattle.row_search.proofs.Looping.{take-whole}
use Rattle.row_search.proofs.Answering.{missed-none, send-meets-nothing}
use Rattle.row_search.proofs.Walks.{NoneMeets, none-more}
use Rattle.row_search.proofs.found.find_receiver.Goals as goal

pub returns : goal.returns
returns g c =
    let rows = g.S.RowsAtHand.rows c.args.store.now in
    let rs = c.in_ok-receivers in
    send-meets-nothing rows (map (λ (d : Digest). d.0) rs.receivers.now) c.args.op.now c.args.channel.now c.requires.send rs.ensures
    (subst (λ (l : List Digest). NoneMeets rows c.args.op.now (looked_up rows (map (λ d. d.0) l))) (take-whole rs.receivers.now c.loop-id.id-index c.loop-id-test.false) c.loop-id.invariant)

pub loop-id-preserved : goal.loop-id-preserved
loop-id-preserved g c =
    let rows = g.S.RowsAtHand.rows c.args.store.now in
    none-more rows c.args.op.now c.in_ok-receivers.receivers.now c.loop-id.id-index _ c.loop-id-test.true c.loop-id.invariant
    (missed-none c.in_ok-found.found _ (IsFound rows c.args.op.now) (sym c.is_some.ensures ∙ c.if-is_some.false) c.in_ok-found.ensures)
