use Rattle.std.proofs.Common.{◌≡◌, List, ap, subst, sym, ◌∙◌, filter}
use Rattle.std.specs.Prelude.{Option}
use Rattle.std.specs.Option.{option_copied}
use Rattle.calculus.specs.Rows.{Row}
use Rattle.row_search.specs.Rows.{row_with}
use Rattle.rspace_table.specs.Hands.{firsts, is_send, sends_of}
use Rattle.rspace_table.proofs.held.send_at.Goals as goal

pub returns-in-Some : goal.returns-in-Some
returns-in-Some c =
    subst (λ (s : Option (List Row)). option_copied c.send_with.result ≡ row_with c.args.id.now.0 (sends_of s)) (sym c.in-Some.is)
    (c.send_with.ensures ∙ ap (λ (rows : List Row). row_with c.args.id.now.0 (filter is_send (firsts rows))) c.table.ensures)
