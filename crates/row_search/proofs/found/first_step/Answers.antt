use Rattle.row_search.proofs.Known.{as-row, send-channel}
use Rattle.row_search.proofs.Sound.{among-last}
use Rattle.row_search.proofs.Answering.{may-itself, itself-answers}
use Rattle.row_search.proofs.found.first_step.Goals as goal

pub meet_receiver-requires-clause-may : goal.meet_receiver-requires-clause-may
meet_receiver-requires-clause-may g c =
    let p = c.in-Consume in
    may-itself (g.S.RowsAtHand.rows c.args.store.now) c.args.op.now p.id p.kind p.binds p.body (as-row c.args.op.now _ _ c.op.ensures.is p.is)

pub meet_receiver-requires-clause-at_hand : goal.meet_receiver-requires-clause-at_hand
meet_receiver-requires-clause-at_hand g c = among-last c.args.op.now (g.S.RowsAtHand.rows c.args.store.now)

pub returns-in-Consume : goal.returns-in-Consume
returns-in-Consume g c =
    let p = c.in-Consume in
    itself-answers (g.S.RowsAtHand.rows c.args.store.now) c.args.op.now p.id p.kind p.binds p.body (as-row c.args.op.now _ _ c.op.ensures.is p.is) c.meet_receiver.result c.meet_receiver.ensures
