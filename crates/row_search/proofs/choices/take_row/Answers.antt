use Rattle.std.proofs.Common.{sym, ◌∙◌, ap}
use Rattle.std.specs.Option.{option_copied}
use Rattle.row_search.proofs.Looking.{no-choice-there}
use Rattle.row_search.proofs.Walks.{row-choices}
use Rattle.row_search.proofs.choices.take_row.Goals as goal

pub returns-in-None : goal.returns-in-None
returns-in-None g c = no-choice-there c.args.bind.now (g.S.RowsAtHand.rows c.args.store.now) c.args.id.now.0 (sym c.row.ensures ∙ ap option_copied c.in-None.is)

pub returns-in-Some : goal.returns-in-Some
returns-in-Some g c =
    row-choices c.args.bind.now (g.S.RowsAtHand.rows c.args.store.now) c.args.id.now.0 c.in-Some.row.now c.take_send.result (sym c.row.ensures ∙ ap option_copied c.in-Some.is) c.take_send.ensures
