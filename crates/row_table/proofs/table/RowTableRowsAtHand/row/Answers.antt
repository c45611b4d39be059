use Rattle.std.proofs.Common.{sym, ◌∙◌, ap}
use Rattle.std.specs.Option.{option_copied}
use Rattle.row_search.specs.Rows.{row_with}
use Rattle.row_table.proofs.Filing.{row-at, row_of, under-ids}
use Rattle.row_table.proofs.table.RowTableRowsAtHand.row.Goals as goal

pub returns-in-Some : goal.returns-in-Some
returns-in-Some c =
    let i = c.self.inside in
    let u = under-ids i.sends.entries i.receivers.entries i.rows.entries c.self.invariant.filed in
    sym (ap row_of (sym c.get.ensures.value ∙ ap option_copied c.in-Some.is)) ∙ row-at i.rows.entries u c.args.id.now.0 ∙ ap (row_with c.args.id.now.0) c.self.view_is

pub returns-in-None : goal.returns-in-None
returns-in-None c =
    let i = c.self.inside in
    let u = under-ids i.sends.entries i.receivers.entries i.rows.entries c.self.invariant.filed in
    sym (ap row_of (sym c.get.ensures.value ∙ ap option_copied c.in-None.is)) ∙ row-at i.rows.entries u c.args.id.now.0 ∙ ap (row_with c.args.id.now.0) c.self.view_is
