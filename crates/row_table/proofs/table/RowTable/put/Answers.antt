use Rattle.std.proofs.Common.{◌≡◌, ℕ, List, true, map, sym, ◌∙◌, ap, subst}
use Rattle.std.specs.Prelude.{is_some}
use Rattle.calculus.specs.Rows.{Row}
use Rattle.calculus.specs.Steps.{is_one_of}
use Rattle.row_table.proofs.Changing.{copied-some, is-found}
use Rattle.row_table.proofs.table.RowTable.put.Goals as goal

pub returns-then-is_some-clause-there : goal.returns-then-is_some-clause-there
returns-then-is_some-clause-there c =
    λ t. subst (λ (x : List ℕ). is_one_of x (map (λ (r : Row). r.id) c.args.self.now) ≡ true) c.id.ensures
    (is-found c.id.result.0 c.args.self.now (ap is_some (sym c.row-2.ensures) ∙ copied-some _ ∙ sym c.is_some.ensures ∙ c.if-is_some.true))
