use Rattle.std.proofs.Common.{List, sym, ◌∙◌, ap, subst}
use Rattle.calculus.specs.Rows.{Row}
use Rattle.row_search.specs.Rows.{HasSends}
use Rattle.row_table.specs.Groups.{group}
use Rattle.row_table.specs.Ids.{bytes_of}
use Rattle.row_table.specs.Tables.{rows_in}
use Rattle.row_table.proofs.Changing.{ids-tell}
use Rattle.row_table.proofs.Filing.{sends-found, under-ids}
use Rattle.row_table.proofs.table.RowTableRowsAtHand.sends_on.Goals as goal

pub returns : goal.returns
returns c =
    let i = c.self.inside in
    let t = c.self.invariant in
    let es = i.rows.entries in
    let ch = c.args.channel.now in
    let u = under-ids i.sends.entries i.receivers.entries es t.filed in
    let ids = c.ids_of.ensures ∙ ap (group i.sends.entries) c.in_ok-key.ensures in
    subst (λ (rs : List Row). HasSends rs ch (bytes_of c.ids_of.result.now)) c.self.view_is
    (subst (HasSends (rows_in es) ch) (sym ids) (sends-found es i.sends.entries i.receivers.entries i.shards t (ids-tell es t.ordered u) ch c.requires))
