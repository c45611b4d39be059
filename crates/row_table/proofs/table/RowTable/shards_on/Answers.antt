use Rattle.std.proofs.Common.{ℕ, List, not, eqb, ◌∙◌, ap}
use Rattle.calculus.specs.Rows.{Row}
use Rattle.row_table.specs.Shown.{heard_on}
use Rattle.row_table.specs.Tables.{total}
use Rattle.row_table.proofs.Showing.{rows-shown}
use Rattle.row_table.proofs.table.RowTable.shards_on.Goals as goal

pub returns : goal.returns
returns c =
    let i = c.self.inside in
    let t = c.self.invariant in
    let es = i.rows.entries in
    let ch = c.args.channel.now in
    λ k lt other. c.bits_of.ensures k lt ∙ ap (λ n. not (eqb n 0)) (t.counted c.in_ok-key.key k lt ∙ ap (λ (z : List ℕ). total es z k) c.in_ok-key.ensures)
    ∙ rows-shown ch c.requires k lt other i.sends.entries i.receivers.entries es t.filed ∙ ap (λ (rs : List Row). heard_on rs ch k) c.self.view_is
