use Rattle.std.proofs.Common.{sym, ◌∙◌, ap}
use Rattle.std.specs.Option.{option_copied}
use Rattle.row_search.proofs.Looking.{row-with-there}
use Rattle.row_search.proofs.Walks.{no-row-meets, row-meets}
use Rattle.row_search.proofs.found.meet_row.Goals as goal

pub meet_heard-requires-clause-at_hand : goal.meet_heard-requires-clause-at_hand
meet_heard-requires-clause-at_hand g c = row-with-there c.args.id.now.0 (g.S.RowsAtHand.rows c.args.store.now) c.in-Some.receiver.now (sym c.row.ensures ∙ ap option_copied c.in-Some.is)

pub returns-in-None : goal.returns-in-None
returns-in-None g c = no-row-meets (g.S.RowsAtHand.rows c.args.store.now) c.args.op.now c.args.id.now.0 (sym c.row.ensures ∙ ap option_copied c.in-None.is)

pub returns-in-Some : goal.returns-in-Some
returns-in-Some g c =
    row-meets (g.S.RowsAtHand.rows c.args.store.now) c.args.op.now c.args.id.now.0 c.in-Some.receiver.now c.meet_heard.result (sym c.row.ensures ∙ ap option_copied c.in-Some.is) c.meet_heard.ensures
